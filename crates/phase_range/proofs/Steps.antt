-- The ranges of a slot to correct, exactly: the rounded steps of differences within their ranges. Assumes nothing.
use mathlib.Core.Bool.{true, false}
use mathlib.Core.Path.{◌≡◌, refl}
use Prim.Native.Nat.{ℕ, suc, ◌+◌, ◌-◌, ◌*◌, ◌^◌, ◌≤◌, ◌<◌}
use native.Mathlib.Omega.{arith}
use borrow.Author.Tests.{le-leb, le-ltb}
use lib.IntN.{ℤ, pos, negsuc, nat_abs, ◌-ℤ◌, ◌*ℤ◌}
use lib.Signed.{mag, le_z}
use Rattle.angles.proofs.Laws.{turn_size}
use Rattle.angles.specs.Angles.{turn_from}
use Rattle.fx.proofs.Theorems.{shift_theorem}
use Rattle.fx.specs.Answers.{wide}
use Rattle.fx.specs.Fx.{div_round, round_shift}
use Rattle.laws.proofs.Linear.{up, dn, sum_ud, dif_ud, neg_ud, ud_eq, size_ud}
use Rattle.phase.proofs.Laws.{gain_size}
use Rattle.phase.specs.Phase.{gain_of, per_symbol, whole_of}
use Rattle.phase.specs.Ranges.{HeadOk, whole_in_range}
use Rattle.sync_heads.specs.declared.Head.{Head}

-- a product with a number that is not negative, by its two sides
pub mul_ud : (z : ℤ) (n : ℕ) → (up (z *ℤ pos n) ≡ up z * n) × (dn (z *ℤ pos n) ≡ dn z * n)
mul_ud (pos a) n = (refl, omega arith)
mul_ud (negsuc a) n = let g = neg_ud (pos (suc a * n)) in (omega (arith, g.0), g.1)

-- the step of a difference from -a to b is from -(a r + h) / 2^21 to (b r + h) / 2^21
step_range : (d : ℤ) (a b lo hi : ℕ) → dn d ≤ up d + a → up d ≤ dn d + b → a * 14784741 ≤ lo * 2 ^ 21 + 2 ^ 20 → b * 14784741 + 2 ^ 20 < (hi + 1) * 2 ^ 21 →
    (dn (per_symbol d) ≤ up (per_symbol d) + lo) × (up (per_symbol d) ≤ dn (per_symbol d) + hi)
unfolding per_symbol
step_range d a b lo hi l h p q =
    let v = d *ℤ pos 14784741 in
    let r = round_shift v 21 in
    let f = shift_theorem v 21 (omega arith) in
    let n = pos (2 ^ 20) in
    let m = r *ℤ pos (2 ^ 21) in
    let t = pos f.rest in
    let k = mul_ud d 14784741 in
    let g = mul_ud r (2 ^ 21) in
    let e = ud_eq f.is in
    (omega (arith, e, sum_ud v n, sum_ud m t, k.0, k.1, g.0, g.1, f.below, l, p), omega (arith, e, sum_ud v n, sum_ud m t, k.0, k.1, g.0, g.1, f.below, h, q))

-- ---- the steps of a slot
delta_range : (a b : ℕ) → let r = per_symbol (turn_from a b) in (dn r ≤ up r + 15139574784) × (up r ≤ dn r + 15139574777)
delta_range a b =
    let d = turn_from a b in
    let g = sides d (turn_size a b) in
    step_range d (2 ^ 31) (2 ^ 31 - 1) 15139574784 15139574777 g.0 g.1 (omega arith) (omega arith)
  where
    sides : (z : ℤ) → mag z < 2 ^ 31 → (dn z ≤ up z + 2 ^ 31) × (up z ≤ dn z + (2 ^ 31 - 1))
    sides (pos n) h = (omega arith, omega arith)
    sides (negsuc n) h = (omega arith, omega arith)

-- a gain is not negative
quotient_pos : (b : ℤ) → dn (div_round (pos 4555500750) b) ≡ 0
unfolding div_round
quotient_pos b = refl

gain_pos : (amp : ℤ) → dn (gain_of amp) ≡ 0
unfolding gain_of
gain_pos amp = quotient_pos _

gamma_range : (a b : ℤ) → let r = per_symbol (gain_of b -ℤ gain_of a) in (dn r ≤ up r + 501810748) × (up r ≤ dn r + 501810748)
gamma_range a b =
    let d = gain_of b -ℤ gain_of a in
    let u = dif_ud (gain_of b) (gain_of a) in
    step_range d 71179699 71179699 501810748 501810748
    (omega (arith, u, gain_pos a, gain_pos b, gain_size a, size_ud (gain_of a)))
    (omega (arith, u, gain_pos a, gain_pos b, gain_size b, size_ud (gain_of b)))
    (omega arith)
    (omega arith)

-- ---- and so all its numbers are in range
at_least : (z : ℤ) (n : ℕ) → dn z ≤ up z + suc n → le_z (negsuc n) z ≡ true
at_least (pos a) n h = refl
at_least (negsuc a) n h = le-leb a n (omega arith)

at_most : (z : ℤ) (n : ℕ) → up z ≤ dn z + n → le_z z (pos n) ≡ true
at_most (pos a) n h = le-leb a n (omega arith)
at_most (negsuc a) n h = refl

not_negative : (z : ℤ) → dn z ≡ 0 → le_z (pos 0) z ≡ true
not_negative (pos a) h = le-leb 0 a (omega arith)
not_negative (negsuc a) h = absurd (omega (arith, h))

narrow : (v : ℤ) → nat_abs v ≤ 2 ^ 60 → wide v ≡ false
narrow v h = le-ltb (2 ^ 60) (nat_abs v) h

pub whole_in_range_lem : (a b : Head) → HeadOk a → HeadOk b → whole_in_range (whole_of a b) ≡ true
unfolding whole_in_range whole_of
whole_in_range_lem a b ha hb =
    let d = delta_range a.theta b.theta in
    let m = gamma_range a.amp b.amp in
    rw (
      narrow a.amp ha.amp,
      narrow b.amp hb.amp,
      at_least (per_symbol (turn_from a.theta b.theta)) 15139574783 d.0,
      at_most (per_symbol (turn_from a.theta b.theta)) 15139574777 d.1,
      not_negative (gain_of a.amp) (gain_pos a.amp),
      at_most (gain_of a.amp) 71179699 (omega (arith, gain_pos a.amp, gain_size a.amp, size_ud (gain_of a.amp))),
      at_least (per_symbol (gain_of b.amp -ℤ gain_of a.amp)) 501810747 m.0,
      at_most (per_symbol (gain_of b.amp -ℤ gain_of a.amp)) 501810748 m.1,
    )
