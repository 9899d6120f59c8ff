-- Laws of the definitions of fx that its proofs cite. Assumes nothing.
-- a number above 0 is its size
use Rattle.std.proofs.Common.{◌≡◌, ℕ, zero, suc, ◌+◌, ◌-◌, ◌*◌, ◌%◌, ◌^◌, ◌<◌, ◌≤◌, Bool, true, false, not, ℤ, pos, negsuc, ◌+ℤ◌, ◌-ℤ◌, ◌*ℤ◌, nat_abs, refl, ap, ◌∙◌, not-suc-le-zero, pow-suc, sub-one, arith, ltb-false, leb-false}
use Rattle.std.proofs.lemmas.Int.{ints}
use Rattle.std.specs.Int.{int_div_euclid, int_max, int_min}
use Rattle.std.specs.Prelude.{cond, max, ◌≤ℤ◌}
use lib.Signed.{lt_z, mag, shr_z}
use Rattle.fx.specs.Answers.{wide, outside}
use Rattle.fx.specs.Cordic.{cordic_step}
use Rattle.fx.specs.Fx.{floor_div, half_up, clamp}
use Rattle.fx.specs.declared.Turn.{Turn}
use Rattle.laws.proofs.Floor.{floor_twice}
use Rattle.laws.proofs.Linear.{eq_ud, sum_ud}
use Rattle.laws.proofs.Tests.{never}
use Rattle.laws.specs.Choice.{when◌then◌else◌}

pub pos_of : (b : ℤ) → lt_z b (pos 1) ≡ false → b ≡ pos (nat_abs b)
pos_of (pos a) t = refl
pos_of (negsuc a) t = absurd (never t)

-- rounding by adding half the divisor, as the code does
pub half_up_lem : (v : ℤ) (s : ℕ) → 0 < s → half_up v (2 ^ s) ≡ floor_div (v +ℤ pos (2 ^ (s - 1))) (2 ^ s)
half_up_lem v s h = ap (λ (z : ℤ). floor_div z (2 * 2 ^ s)) (whole v (2 ^ s) (2 ^ (s - 1)) (double s h)) ∙ floor_twice (v +ℤ pos (2 ^ (s - 1))) (2 ^ s)
  where
    double : (s : ℕ) → 0 < s → 2 ^ s ≡ 2 ^ (s - 1) + 2 ^ (s - 1)
    double zero h = absurd (not-suc-le-zero h)
    double (suc k) h = rw sub-one (omega (arith, pow-suc 2 k))

    whole : (v : ℤ) (m k : ℕ) → m ≡ k + k → v +ℤ v +ℤ pos m ≡ (v +ℤ pos k) +ℤ (v +ℤ pos k)
    whole v m k e =
        eq_ud (v +ℤ v +ℤ pos m) ((v +ℤ pos k) +ℤ (v +ℤ pos k))
        (omega (arith, sum_ud v v, sum_ud (v +ℤ v) (pos m), sum_ud v (pos k), sum_ud (v +ℤ pos k) (v +ℤ pos k)))

-- a test that does not refuse
pub not_wide : (v : ℤ) → wide v ≡ false → nat_abs v ≤ 2 ^ 60
not_wide v e = ltb-false (2 ^ 60) (nat_abs v) e

pub not_outside : (v : ℤ) → outside v ≡ false → nat_abs v < 2 ^ 22
not_outside v e = leb-false (2 ^ 22) (nat_abs v) e

-- a step of the CORDIC, each part chosen by itself
by_parts : (p : Bool) (x x' y y' : ℤ) (z z' : ℕ) →
    ◌≡◌ {A = Turn} (record { x = when p then x else x'; y = when not p then y' else y; z = when p then z else z' })
    (when p then record { x = x; y = y; z = z } else record { x = x'; y = y'; z = z' })
unfolding when◌then◌else◌
by_parts true x x' y y' z z' = refl
by_parts false x x' y y' z z' = refl

pub step_parts : (t : Turn) (i a : ℕ) →
    let p = lt_z (pos 0) t.y in
    let dx = floor_div t.y (2 ^ i) in
    let dy = floor_div t.x (2 ^ i) in
    ◌≡◌ {A = Turn} (record {
      x = when p then t.x +ℤ dx else t.x -ℤ dx;
      y = when not p then t.y +ℤ dy else t.y -ℤ dy;
      z = when p then (t.z + a) % 2 ^ 32 else (t.z + (2 ^ 32 - a)) % 2 ^ 32;
    }) (cordic_step t i a)
unfolding cordic_step
step_parts t i a = by_parts (lt_z (pos 0) t.y) _ _ _ _ _ _

-- ---- the library's clamp, in the definition's words
upper : (t : Bool) (m n k : ℕ) → cond (lt_z (cond t (pos n) (pos k)) (negsuc m)) (negsuc m) (cond t (pos n) (pos k)) ≡ (when false then negsuc m else when t then pos n else pos k)
unfolding when◌then◌else◌
upper true m n k = refl
upper false m n k = refl

lower : (t : Bool) (a b c : ℤ) → cond t a c ≡ (when t then a else when false then b else c)
unfolding when◌then◌else◌
lower true a b c = refl
lower false a b c = refl

pub clamped : (m n : ℕ) (v : ℤ) → int_max (negsuc m) (int_min v (pos n)) ≡ clamp (negsuc m) (pos n) v
clamped m n (pos k) = upper (lt_z (pos n) (pos k)) m n k
clamped m n (negsuc k) = lower (lt_z (negsuc k) (negsuc m)) (negsuc m) (pos n) (negsuc k)

-- .. and its size
pub in_bounds : (m n : ℕ) (r : ℤ) → negsuc m ≤ℤ r → r ≤ℤ pos n → mag r ≤ max m n
in_bounds m n r g h = grind (arith, ints)

-- ---- the library's floor
pub div_is : (z : ℤ) (m : ℕ) → int_div_euclid z (pos m) ≡ shr_z z m
div_is (pos a) m = refl
div_is (negsuc a) m = refl

pub twice_of : (b : ℤ) → lt_z b (pos 1) ≡ false → pos 2 *ℤ b ≡ pos (2 * nat_abs b)
twice_of b t = ap (λ (z : ℤ). pos 2 *ℤ z) (pos_of b t)
