-- How far a point goes in the CORDIC: of parts of size at most b, x starts within 256 b and no step takes it past 768 b + n, y stays within
-- 256 b, and x is never negative. Assumes nothing.
-- after n steps from parts of size at most b; what all later steps can add to x is under twice 256 b / 2^n, and one for each
use Rattle.std.proofs.Common.{◌≡◌, ℕ, zero, suc, ◌+◌, ◌*◌, ◌/◌, ◌^◌, ◌<◌, ◌≤◌, get_or, ℤ, pos, negsuc, ◌+ℤ◌, ◌-ℤ◌, ◌*ℤ◌, neg_ℤ, nat_abs, refl, zero-le, le_of_suc-le-suc, suc-mul, div-lt_iff_lt-mul, mul-le-mul_left, pow-suc, div-one, arith, pow_mono}
use native.Mathlib.Nat.{zero-div, div-div-eq-div-mul}
use lib.Pow.{shr_mono}
use lib.Signed.{lt_z}
use Rattle.fx.specs.Cordic.{cordic_start, right_half, cordic_angles, cordic_steps, cordic_step}
use Rattle.fx.specs.Fx.{floor_div}
use Rattle.fx.specs.declared.Turn.{Turn}
use Rattle.laws.proofs.Linear.{size_ud, test_lt, dn, test_le, not_below, not_above, size_le, dif_ud, neg_ud, sum_ud, up}
use Rattle.laws.proofs.Size.{abs_neg, abs_mul}
use Rattle.laws.proofs.Tests.{if_either}

pub record Within (b n : ℕ) (t : Turn) : Type 0 where
  pub right : dn t.x ≡ 0
  pub far : up t.x + 2 * (256 * b / 2 ^ n) ≤ 768 * b + n
  pub low : nat_abs t.y ≤ 256 * b

pub start_within : (re im : ℤ) (b : ℕ) → nat_abs re ≤ b → nat_abs im ≤ b → Within b 0 (cordic_start re im)
unfolding cordic_start right_half
start_within re im b hr hi =
    let x = re *ℤ pos 256 in
    let y = im *ℤ pos 256 in
    if_either (Within b 0) (lt_z x (pos 0)) (record { x = neg_ℤ x; y = neg_ℤ y; z = 2 ^ 31 }) (record { x = x; y = y; z = 0 })
    (λ e.
    let n = not_above x (omega (arith, test_lt x (pos 0) e)) in
    record {
      right = omega (arith, neg_ud x, n);
      far = omega (arith, neg_ud x, size_ud x, abs_mul re (pos 256), div-one (256 * b));
      low = omega (arith, abs_neg y, abs_mul im (pos 256));
    })
    (λ e.
    record {
      right = not_below x (omega (arith, test_le x (pos 0) e));
      far = omega (arith, size_ud x, abs_mul re (pos 256), div-one (256 * b));
      low = omega (arith, abs_mul im (pos 256));
    })

-- ---- a step
-- the floor of a y within B
floor_up : (y : ℤ) (n B : ℕ) → nat_abs y ≤ B → up (floor_div y (2 ^ n)) ≤ B / 2 ^ n
floor_up (pos a) n B h = shr_mono n h
floor_up (negsuc a) n B h = zero-le

floor_dn : (y : ℤ) (n B : ℕ) → nat_abs y ≤ B → dn (floor_div y (2 ^ n)) ≤ B / 2 ^ n + 1
floor_dn (pos a) n B h = zero-le
floor_dn (negsuc a) n B h = let g = shr_mono {a = a} {b = B} n (omega arith) in omega arith

floor_sign : (y : ℤ) (m : ℕ) → (dn y ≡ 0 → dn (floor_div y m) ≡ 0) × (up y ≡ 0 → up (floor_div y m) ≡ 0)
floor_sign (pos a) m = (λ e. refl, λ (e : a ≡ 0). rw e (zero-div m))
floor_sign (negsuc a) m = (omega arith, λ e. refl)

-- half of a quotient is the next one
halved : (B n : ℕ) → 2 * (B / 2 ^ suc n) ≤ B / 2 ^ n
halved B n = rw (pow-suc 2 n, ← div-div-eq-div-mul B (2 ^ n) 2) (omega arith)

lt_pow : (n : ℕ) → n < 2 ^ n
lt_pow zero = omega arith
lt_pow (suc n) = omega (arith, lt_pow n, pow-suc 2 n)

-- (3 k + n) / m is at most k, for m at least 4 and above n
third : (k m n : ℕ) → 4 ≤ m → n < m → (3 * k + n) / m ≤ k
third k m n h l = le_of_suc-le-suc ((div-lt_iff_lt-mul {k = m} {x = 3 * k + n} {y = suc k} (omega arith)).1 (rw (suc-mul k m) (omega (arith, mul-le-mul_left k h))))

-- the x of step n, divided, is within 256 b
near : (b n : ℕ) (x : ℤ) → dn x ≡ 0 → up x + 2 * (256 * b / 2 ^ n) ≤ 768 * b + n → up (floor_div x (2 ^ n)) ≤ 256 * b
near b zero x d h = omega (arith, floor_up x 0 (up x) (omega (arith, size_ud x)), div-one (up x), div-one (256 * b))
near b (suc zero) x d h = omega (arith, floor_up x 1 (up x) (omega (arith, size_ud x)))
near b (suc (suc n)) x d h =
    let k = suc (suc n) in
    omega (arith, floor_up x k (3 * (256 * b) + k) (omega (arith, size_ud x)), third (256 * b) (2 ^ k) k (pow_mono {i = 2} {j = k} (omega arith)) (lt_pow k))

step_within : (b n : ℕ) (t : Turn) (a : ℕ) → Within b n t → Within b (suc n) (cordic_step t n a)
unfolding cordic_step
step_within b n t a w =
    let m = 2 ^ n in
    let x = t.x in
    let y = t.y in
    let dx = floor_div y m in
    let dy = floor_div x m in
    let k = halved (256 * b) n in
    let e = near b n x w.right w.far in
    let f = (floor_sign x m).0 w.right in
    if_either (Within b (suc n)) (lt_z (pos 0) y) _ _
    (λ p.
    let s = test_lt (pos 0) y p in
    let v = not_below y (omega arith) in
    let g = (floor_sign y m).0 v in
    let r = not_below (x +ℤ dx) (omega (arith, sum_ud x dx, w.right)) in
    record {
      right = r;
      far = omega (arith, sum_ud x dx, w.right, w.far, floor_up y n (256 * b) w.low);
      low = size_le (y -ℤ dy) (256 * b) (omega (arith, dif_ud y dy, size_ud y, w.low)) (omega (arith, dif_ud y dy));
    })
    (λ p.
    let s = test_le (pos 0) y p in
    let v = not_above y (omega arith) in
    let g = (floor_sign y m).1 v in
    let r = not_below (x -ℤ dx) (omega (arith, dif_ud x dx, w.right)) in
    record {
      right = r;
      far = omega (arith, dif_ud x dx, w.right, w.far, floor_dn y n (256 * b) w.low);
      low = size_le (y +ℤ dy) (256 * b) (omega (arith, sum_ud y dy)) (omega (arith, sum_ud y dy, size_ud y, w.low));
    })

pub steps_within_lem : (b n : ℕ) (t : Turn) → Within b 0 t → Within b n (cordic_steps n t)
unfolding cordic_steps
steps_within_lem b zero t w = w
steps_within_lem b (suc n) t w = step_within b n (cordic_steps n t) (get_or cordic_angles n 0) (steps_within_lem b n t w)

-- x after n steps, as a size
pub far_size : (b n : ℕ) (t : Turn) → Within b n t → nat_abs t.x ≤ 768 * b + n
far_size b n t w = omega (arith, size_ud t.x, w.right, w.far)
