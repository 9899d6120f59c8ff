-- Sizes of integers, as facts on natural numbers that `omega` reads; what fits a machine number; and a calculus of machine numbers with a
-- size, by which a chain of signed operations is one term. Assumes nothing.
use Rattle.std.proofs.Common.{◌≡◌, ℕ, zero, suc, ◌+◌, ◌-◌, ◌*◌, ◌%◌, ◌^◌, ◌<◌, ◌≤◌, max, Bool, true, false, cond, ◌&&◌, T, ltb, leb, ℤ, pos, negsuc, ◌+ℤ◌, ◌-ℤ◌, ◌*ℤ◌, neg_ℤ, nat_abs, sym, refl, ap, ◌∙◌, ap₂, lt_trans, le_refl, mod-eq_of_lt, mul-le-mul, one-mul, zero-add, div-le_self, add-one, arith, lit<, ltb→lt, to_z-of_z, w64, SFits, to_z, of_z, ltb-false, ltb-true, le-leb, leb-false, leb-true}
use native.Mathlib.Nat.{le-suc}
use borrow.Author.Tests.{lt-leb}
use lib.IntN.{+ℤ_one}
use lib.Pow.{pow-lt}
use lib.Signed.{mag, lt_z, le_z, shr_z, non_neg, mag_shr}
use mir.Syntax.{Width}
use mir.Val.{hbits}
use mir.ValLaws.{sfits_le}
use mir.Facts.{to_z_pos}
use Rattle.laws.proofs.Tests.{never}

-- ---- the size of a sum, a difference, a product, a shift
pub mag≤ : (z : ℤ) → mag z ≤ nat_abs z
mag≤ (pos a) = le_refl a
mag≤ (negsuc a) = le-suc a

pub abs≤ : (z : ℤ) → nat_abs z ≤ mag z + 1
abs≤ (pos a) = omega arith
abs≤ (negsuc a) = omega arith

sub_abs : (t : Bool) (a b : ℕ) → ltb a b ≡ t → nat_abs (cond t (negsuc (b - suc a)) (pos (a - b))) ≤ a + b
sub_abs true a b e = omega (arith, ltb-true a b e)
sub_abs false a b e = omega arith

pub abs_add : (a b : ℤ) → nat_abs (a +ℤ b) ≤ nat_abs a + nat_abs b
abs_add (pos a) (pos b) = omega arith
abs_add (pos a) (negsuc b) = sub_abs (ltb a (suc b)) a (suc b) refl
abs_add (negsuc a) (pos b) = omega (arith, sub_abs (ltb b (suc a)) b (suc a) refl)
abs_add (negsuc a) (negsuc b) = omega arith

pub abs_neg : (a : ℤ) → nat_abs (neg_ℤ a) ≡ nat_abs a
abs_neg (pos zero) = refl
abs_neg (pos (suc n)) = refl
abs_neg (negsuc n) = refl

pub abs_sub : (a b : ℤ) → nat_abs (a -ℤ b) ≤ nat_abs a + nat_abs b
abs_sub a b = omega (arith, abs_add a (neg_ℤ b), abs_neg b)

abs_neg_pos : (n : ℕ) → nat_abs (neg_ℤ (pos n)) ≡ n
abs_neg_pos n = abs_neg (pos n)

pub abs_mul : (a b : ℤ) → nat_abs (a *ℤ b) ≡ nat_abs a * nat_abs b
abs_mul (pos a) (pos b) = refl
abs_mul (pos a) (negsuc b) = abs_neg_pos (a * suc b)
abs_mul (negsuc a) (pos b) = abs_neg_pos (suc a * b)
abs_mul (negsuc a) (negsuc b) = refl

pub abs_shr : (a : ℤ) (m : ℕ) → nat_abs (shr_z a m) ≤ nat_abs a
abs_shr (pos a) m = div-le_self a m
abs_shr (negsuc a) m = omega (arith, div-le_self a m)

-- ---- what fits
pub sfits_abs : (w : Width) (z : ℤ) → nat_abs z < 2 ^ hbits w → SFits w z
sfits_abs w z h = record { sfits = omega (arith, mag≤ z) }

-- a number that fits is read back from its bits: of a call's result p, `back w64 p.result p.ok`
pub back : (w : Width) (z : ℤ) → mag z < 2 ^ hbits w → to_z w (of_z w z) ≡ z
back w z h = to_z-of_z (record { sfits = h })

-- for `search (needs, sfits_shr)`: a shift fits where the number does
pub sfits_shr : {w : Width} {z : ℤ} (m : ℕ) → SFits w z → SFits w (shr_z z m)
sfits_shr {w} {z} m f = sfits_le (mag_shr z m) f

-- neither below -(m + 1) nor above n
pub mag_clamped : (z : ℤ) (m n : ℕ) → lt_z z (negsuc m) ≡ false → lt_z (pos n) z ≡ false → mag z ≤ max m n
mag_clamped (pos a) m n l h = omega (arith, ltb-false n a h)
mag_clamped (negsuc a) m n l h = omega (arith, ltb-false m a l)

-- ---- by the sign
not_neg : (a : ℕ) → ltb a 0 ≡ true → ⊥
not_neg a t = omega (arith, ltb-true a 0 t)

pub neg_abs : (z : ℤ) → lt_z z (pos 0) ≡ true → pos 0 -ℤ z ≡ pos (nat_abs z)
neg_abs (pos a) t = absurd (not_neg a t)
neg_abs (negsuc a) t = ap pos (zero-add (suc a))

pub pos_abs : (z : ℤ) → lt_z z (pos 0) ≡ false → z ≡ pos (nat_abs z)
pos_abs (pos a) t = refl
pos_abs (negsuc a) t = absurd (never t)

pub size_neg : (n : ℤ) → lt_z n (pos 0) ≡ true → nat_abs n ≡ suc (mag n)
size_neg (pos a) t = absurd (not_neg a t)
size_neg (negsuc a) t = refl

pub size_pos : (n : ℤ) → lt_z n (pos 0) ≡ false → nat_abs n ≡ mag n
size_pos (pos a) t = refl
size_pos (negsuc a) t = absurd (never t)

pub ge_non_neg : (z : ℤ) → lt_z z (pos 0) ≡ false → T (non_neg z)
ge_non_neg (pos n) t = tt
ge_non_neg (negsuc n) t = absurd (never t)

pub above_zero : (b : ℤ) → lt_z b (pos 1) ≡ false → 0 < nat_abs b
above_zero (pos a) t = ltb-false a 1 t
above_zero (negsuc a) t = absurd (never t)

-- -(z + 1) of a negative z fits, and is one less than the size: so the least machine number has a size too
pub step_up : (z : ℤ) → lt_z z (pos 0) ≡ true → mag (z +ℤ pos 1) ≤ mag z
step_up (pos a) t = absurd (not_neg a t)
step_up (negsuc zero) t = le_refl 0
step_up (negsuc (suc n)) t = rw (+ℤ_one (negsuc (suc n))) (le-suc n)

pub flip_up : (z : ℤ) → lt_z z (pos 0) ≡ true → (pos 0 -ℤ (z +ℤ pos 1) ≡ pos (mag z)) × (mag z + 1 ≡ nat_abs z)
flip_up (pos a) t = absurd (not_neg a t)
flip_up (negsuc zero) t = (refl, refl)
flip_up (negsuc (suc n)) t = (rw (+ℤ_one (negsuc (suc n))) (ap pos (zero-add (suc n))), add-one (suc n))

-- ---- bits
-- the bits of 1 << k, read as signed
pub one_shl : (k : ℕ) → k < 63 → to_z w64 ((1 * 2 ^ k) % 2 ^ 64) ≡ pos (2 ^ k)
one_shl k h = rw (one-mul (2 ^ k), mod-eq_of_lt (lt_trans small (lit< tt))) (to_z_pos w64 small)
  where
    small : 2 ^ k < 2 ^ 63
    small = pow-lt h

-- a difference that wraps, as `std::num` states it, as a sum
pub wrapped : (r a b : ℕ) → r < 2 ^ 32 → b < 2 ^ 32 → (r + b) % 2 ^ 32 ≡ a → r ≡ (a + (2 ^ 32 - b)) % 2 ^ 32
wrapped r a b hr hb e = omega arith

-- ---- the calculus: the machine's x is the number z, of size at most B
pub record Num (x z : ℤ) (B : ℕ) : Type 0 where
  pub is : x ≡ z
  pub size : nat_abs z ≤ B

-- a number as it stands, at a bound
pub num : (z : ℤ) (B : ℕ) → nat_abs z ≤ B → Num z z B
num z B h = record { is = refl; size = h }

-- a literal
pub lit : (n : ℕ) → Num (pos n) (pos n) n
lit n = num (pos n) n (le_refl n)

-- the bound is a test of two numerals
pub fits : (w : Width) {x z : ℤ} {B : ℕ} → Num x z B → T (ltb B (2 ^ hbits w)) → SFits w x
fits w {x} {z} {B} n t = rw n.is (record { sfits = omega (arith, n.size, mag≤ z, ltb→lt B (2 ^ hbits w) t) })

-- an intermediate, which a local of width w holds
pub at : (w : Width) {x z : ℤ} {B : ℕ} → Num x z B → T (ltb B (2 ^ hbits w)) → Num (to_z w (of_z w x)) z B
at w n t = record { is = to_z-of_z (fits w n t) ∙ n.is; size = n.size }

-- a parameter or an element, which fits its own width
pub arg : {w : Width} {z : ℤ} → SFits w z → Num (to_z w (of_z w z)) z (2 ^ hbits w)
arg {w} {z} h = record { is = to_z-of_z h; size = omega (arith, abs≤ z, h.sfits) }

-- the same at a bound of its own
pub arg_le : {w : Width} {z : ℤ} (B : ℕ) → SFits w z → nat_abs z ≤ B → Num (to_z w (of_z w z)) z B
arg_le B h b = record { is = to_z-of_z h; size = b }

pub plus : {x y a b : ℤ} {A B : ℕ} → Num x a A → Num y b B → Num (x +ℤ y) (a +ℤ b) (A + B)
plus {a = a} {b = b} m n = record { is = ap₂ ◌+ℤ◌ m.is n.is; size = omega (arith, m.size, n.size, abs_add a b) }

pub less : {x y a b : ℤ} {A B : ℕ} → Num x a A → Num y b B → Num (x -ℤ y) (a -ℤ b) (A + B)
less {a = a} {b = b} m n = record { is = ap₂ ◌-ℤ◌ m.is n.is; size = omega (arith, m.size, n.size, abs_sub a b) }

pub times : {x y a b : ℤ} {A B : ℕ} → Num x a A → Num y b B → Num (x *ℤ y) (a *ℤ b) (A * B)
times {a = a} {b = b} m n = record { is = ap₂ ◌*ℤ◌ m.is n.is; size = rw (abs_mul a b) (mul-le-mul m.size n.size) }

pub shr : {x a : ℤ} {A : ℕ} → Num x a A → (m : ℕ) → Num (shr_z x m) (shr_z a m) A
shr {a = a} n m = record { is = ap (λ (z : ℤ). shr_z z m) n.is; size = omega (arith, n.size, abs_shr a m) }

-- ---- both ends of a range that is the same on both sides are one test of the size
and_true : (t : Bool) → (t && true) ≡ t
and_true true = refl
and_true false = refl

pub within_abs : (z : ℤ) (b : ℕ) → (le_z (negsuc b) z && le_z z (pos (suc b))) ≡ leb (nat_abs z) (suc b)
within_abs (pos a) b = refl
within_abs (negsuc a) b = and_true (leb a b) ∙ same (leb a b) refl
  where
    same : (t : Bool) → leb a b ≡ t → leb a b ≡ leb (suc a) (suc b)
    same true e = e ∙ sym (le-leb (suc a) (suc b) (omega (arith, leb-true a b e)))
    same false e = e ∙ sym (lt-leb (suc a) (suc b) (omega (arith, leb-false a b e)))
