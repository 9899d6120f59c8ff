-- What the definitions of fx mean. Each statement stands above its proof; the parts that are long are in Laws and Bounds. Assumes nothing.
-- ---- THE SHIFT IS THE FLOOR
-- the floor of z / m: z is that many times m, and a rest from 0 to below m
use Rattle.std.proofs.Common.{◌≡◌, ℕ, ◌+◌, ◌-◌, ◌*◌, ◌/◌, ◌^◌, ◌<◌, ◌≤◌, true, false, eqb, ℤ, pos, negsuc, ◌+ℤ◌, ◌*ℤ◌, nat_abs, ◌≤ℤ◌, sym, refl, subst, zero-le, not-suc-le-zero, arith, pow_pos, lt-ltb, ne_eqb}
use lib.Signed.{lt_z, ≤ℤ_refl}
use Rattle.fx.proofs.Bounds.{start_within, steps_within_lem}
use Rattle.fx.proofs.Laws.{half_up_lem, pos_of}
use Rattle.fx.specs.Cordic.{cordic_start, cordic_of, cordic_steps}
use Rattle.fx.specs.Fx.{sat32_of, half_up, mag_approx, div_round, sat16_of, floor_div, round_shift, sat127_of, clamp}
use Rattle.fx.specs.Scale.{under_at, least_shift}
use Rattle.laws.proofs.First.{first_least, first_holds}
use Rattle.laws.proofs.Floor.{IsFloor, floor_is}
use Rattle.laws.proofs.Linear.{up, le_ud, test_lt, test_le, ud_le, dn, eq_ud}
use Rattle.laws.proofs.Size.{above_zero}
use Rattle.laws.proofs.Tests.{if_either}
use Rattle.laws.specs.Choice as X
use Rattle.laws.specs.Choice.{if_no, minus, when◌then◌else◌}

pub floor_theorem : (z : ℤ) (m : ℕ) → 0 < m → IsFloor z m (floor_div z m)
floor_theorem = floor_is

-- a shift by s, above 0, is the floor of (v + 2^(s-1)) / 2^s
pub shift_theorem : (v : ℤ) (s : ℕ) → 0 < s → IsFloor (v +ℤ pos (2 ^ (s - 1))) (2 ^ s) (round_shift v s)
unfolding round_shift
shift_theorem v s h =
    rw (if_no (eqb s 0) v (half_up v (2 ^ s)) (ne_eqb s 0 (omega arith)), half_up_lem v s h)
    (floor_is (v +ℤ pos (2 ^ (s - 1))) (2 ^ s) (pow_pos s))

-- a quotient by b is the floor of (2a + b) / 2b
pub quotient_theorem : (a b : ℤ) → lt_z b (pos 1) ≡ false → IsFloor (a +ℤ a +ℤ b) (2 * nat_abs b) (div_round a b)
unfolding div_round
quotient_theorem a b h =
    let g = floor_is (a +ℤ a +ℤ pos (nat_abs b)) (2 * nat_abs b) (omega (arith, above_zero b h)) in
    subst (λ (z : ℤ). IsFloor (a +ℤ a +ℤ z) (2 * nat_abs b) (floor_div (a +ℤ a +ℤ pos (nat_abs b)) (2 * nat_abs b))) (sym (pos_of b h)) g

-- ---- THE LEAST SHIFT: it brings both parts under 2^22 in size, and no lesser one does
under_39 : (z : ℤ) → nat_abs z ≤ 2 ^ 60 → nat_abs (floor_div z (2 ^ 39)) < 2 ^ 22
under_39 (pos a) h = omega arith
under_39 (negsuc a) h = omega arith

at_39 : (re im : ℤ) → nat_abs re ≤ 2 ^ 60 → nat_abs im ≤ 2 ^ 60 → under_at re im 39 ≡ true
unfolding under_at
at_39 re im hr hi =
    rw (lt-ltb (nat_abs (floor_div re (2 ^ 39))) (2 ^ 22) (under_39 re hr), lt-ltb (nat_abs (floor_div im (2 ^ 39))) (2 ^ 22) (under_39 im hi))

pub scale_theorem : (re im : ℤ) → nat_abs re ≤ 2 ^ 60 → nat_abs im ≤ 2 ^ 60 →
    (under_at re im (least_shift re im) ≡ true) × ((s : ℕ) → s < least_shift re im → under_at re im s ≡ false)
unfolding least_shift
scale_theorem re im hr hi = (first_holds (under_at re im) 39 0 (at_39 re im hr hi), λ s h. first_least (under_at re im) 39 0 s zero-le h)

-- ---- SATURATIONS lie in their ranges and are the identity inside
pub record Saturates (lo hi v r : ℤ) : Type 0 where
  pub low : lo ≤ℤ r
  pub high : r ≤ℤ hi
  pub inside : lo ≤ℤ v → v ≤ℤ hi → r ≡ v

clamped : (lo hi v : ℤ) → lo ≤ℤ hi → Saturates lo hi v (clamp lo hi v)
clamped lo hi v h =
    if_either (Saturates lo hi v) (lt_z v lo) lo (when lt_z hi v then hi else v)
    (λ e. record { low = ≤ℤ_refl lo; high = h; inside = λ p q. eq_ud lo v (omega (arith, ud_le p, test_lt v lo e)) })
    (λ e.
    if_either (Saturates lo hi v) (lt_z hi v) hi v
    (λ f. record { low = h; high = ≤ℤ_refl hi; inside = λ p q. eq_ud hi v (omega (arith, ud_le q, test_lt hi v f)) })
    (λ f. record { low = le_ud lo v (omega (arith, test_le v lo e)); high = le_ud v hi (omega (arith, test_le hi v f)); inside = λ p q. refl }))

pub sat16_theorem : (v : ℤ) → Saturates (minus 32768) (pos 32767) v (sat16_of v)
unfolding sat16_of
sat16_theorem v = clamped (minus 32768) (pos 32767) v (record { le = tt })

pub sat127_theorem : (v : ℤ) → Saturates (minus 127) (pos 127) v (sat127_of v)
unfolding sat127_of
sat127_theorem v = clamped (minus 127) (pos 127) v (record { le = tt })

pub sat32_theorem : (v : ℤ) → Saturates (minus 2147483648) (pos 2147483647) v (sat32_of v)
unfolding sat32_of
sat32_theorem v = clamped (minus 2147483648) (pos 2147483647) v (record { le = tt })

-- ---- THE MAGNITUDE never underestimates the larger part, and is at most the sum of both
pub magnitude_theorem : (re im : ℤ) → (nat_abs re ≤ mag_approx re im) × (nat_abs im ≤ mag_approx re im) × (mag_approx re im ≤ nat_abs re + nat_abs im)
unfolding mag_approx
magnitude_theorem re im = omega arith

-- ---- THE CORDIC'S SIZE of parts of size at most b is not negative, and at most (39,797 (768 b + 16) + 2^23) / 2^24, so at most 2 b
pub record Sized (b : ℕ) (r : ℤ) : Type 0 where
  pub size : ℕ
  pub is : r ≡ pos size
  pub most : size ≤ (39797 * (768 * b + 16) + 2 ^ 23) / 2 ^ 24
  pub twice : size ≤ 2 * b

rounded : (n b : ℕ) → n ≤ 768 * b + 16 → Sized b (round_shift (pos n *ℤ pos 39797) 24)
unfolding round_shift X.when◌then◌else◌
rounded n b h = record { size = (n * 39797 + n * 39797 + 2 ^ 24) / 2 ^ 25; is = refl; most = omega arith; twice = omega arith }

pub cordic_theorem : (re im : ℤ) (b : ℕ) → nat_abs re ≤ b → nat_abs im ≤ b → Sized b (cordic_of re im).size
unfolding cordic_of
cordic_theorem re im b hr hi =
    let t = cordic_steps 16 (cordic_start re im) in
    let w = steps_within_lem b 16 (cordic_start re im) (start_within re im b hr hi) in
    rw (right_of t.x w.right) (rounded (up t.x) b (omega (arith, w.far)))
  where
    right_of : (x : ℤ) → dn x ≡ 0 → x ≡ pos (up x)
    right_of (pos a) e = refl
    right_of (negsuc a) e = absurd (not-suc-le-zero {n = a} (omega arith))
