-- `shr_z z m` is the floor of z / m: what that means, and how the code computes it by sizes. Assumes nothing.
use Rattle.std.proofs.Common.{◌≡◌, ℕ, zero, suc, ◌+◌, ◌-◌, ◌*◌, ◌/◌, ◌%◌, ◌<◌, true, false, ltb, ℤ, pos, negsuc, ◌+ℤ◌, ◌-ℤ◌, ◌*ℤ◌, nat_abs, sym, refl, ap, ◌∙◌, mod-lt, div-add-mod', zero-add, sub-one, arith, ltb-true, lt-ltb}
use native.Mathlib.Nat.{div-div-eq-div-mul}
use lib.Signed.{lt_z, shr_z}
use Rattle.laws.proofs.Tests.{never}

-- q is the floor of z / m: z is q times m and a rest from 0 to below m
pub record IsFloor (z : ℤ) (m : ℕ) (q : ℤ) : Type 0 where
  pub rest : ℕ
  pub below : rest < m
  pub is : z ≡ q *ℤ pos m +ℤ pos rest

pub floor_is : (z : ℤ) (m : ℕ) → 0 < m → IsFloor z m (shr_z z m)
floor_is (pos a) m h = record { rest = a % m; below = mod-lt a h; is = ap pos (sym (div-add-mod' a m)) }
floor_is (negsuc a) m h =
    record {
      rest = m - suc (a % m);
      below = omega (arith, mod-lt a h);
      is = rw (whole, lt-ltb (m - suc (a % m)) (suc (a / m * m + (m - 1))) (omega (arith, mod-lt a h)))
          (ap negsuc (omega (arith, div-add-mod' a m, mod-lt a h)));
    }
  where
    whole : suc (a / m) * m ≡ suc (a / m * m + (m - 1))
    whole = omega arith

-- ---- the floor by sizes, as the code computes it
minus_one : (q : ℕ) → negsuc 0 -ℤ pos q ≡ negsuc q
minus_one zero = refl
minus_one (suc q) = ap (λ (k : ℕ). negsuc (suc k)) (zero-add q)

not_neg : (a : ℕ) → ltb a 0 ≡ true → ⊥
not_neg a t = omega (arith, ltb-true a 0 t)

pub floor_neg : (n : ℤ) (d : ℕ) → lt_z n (pos 0) ≡ true → negsuc 0 -ℤ pos ((nat_abs n - 1) / d) ≡ shr_z n d
floor_neg (pos a) d t = absurd (not_neg a t)
floor_neg (negsuc a) d t = rw sub-one (minus_one (a / d))

pub floor_pos : (n : ℤ) (d : ℕ) → lt_z n (pos 0) ≡ false → pos (nat_abs n / d) ≡ shr_z n d
floor_pos (pos a) d t = refl
floor_pos (negsuc a) d t = absurd (never t)

-- ---- twice the number over twice the divisor
pub floor_twice : (z : ℤ) (m : ℕ) → shr_z (z +ℤ z) (2 * m) ≡ shr_z z m
floor_twice (pos a) m = ap pos (sym (div-div-eq-div-mul (a + a) 2 m) ∙ ap (λ (k : ℕ). k / m) (half a))
  where
    half : (a : ℕ) → (a + a) / 2 ≡ a
    half a = omega arith
floor_twice (negsuc a) m = ap negsuc (sym (div-div-eq-div-mul (suc (a + a)) 2 m) ∙ ap (λ (k : ℕ). k / m) (half a))
  where
    half : (a : ℕ) → suc (a + a) / 2 ≡ a
    half a = omega arith
