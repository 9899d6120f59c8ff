-- Rounding with halves away from zero by doubling: twice a double is exact, its whole part n is cut off exactly, and (n + 1) / 2 is the rounded number.
-- Assumes nothing.
use Rattle.std.proofs.Common.{◌≡◌, ℕ, zero, suc, ◌+◌, ◌-◌, ◌*◌, ◌/◌, ◌%◌, ◌^◌, ◌<◌, ◌≤◌, min, true, false, ◌&&◌, T, eqb, ltb, leb, ℤ, pos, negsuc, ◌-ℤ◌, neg_ℤ, sym, refl, ap, ◌∙◌, subst, lt_of_lt_of_le, le_of_suc-le-suc, mul_assoc, mul_comm, div-lt_iff_lt-mul, lt_of_mul-lt-mul_right, mul-lt-mul_of_pos_right, mul-pos, one-mul, lt_of_not-le, le-div_iff_mul-le, mul-one, not-le_of_lt, mul_left_comm, arith, lit<, lit≤, ltb→lt, lt→ltb, leb→le, pow-add, w16, SFits, to_z, of_z, ltb-false, ltb-true, lt-ltb}
use native.Mathlib.Nat.{div-div-eq-div-mul, add-div_right, min-eq_left, min-eq_right, zero-div}
use lib.Pow.{pow-lt}
use lib.IntN.{+ℤ_idl}
use mir.ValLaws.{to_z_pos, to_z-of_z}
use lib.Ieee.{Float, nan, inf, fin, binary64, up, down, round, mul, lt, neg, fits, to_unsigned}
use lib.Ieee.Exact.{HasValue, round_exact}
use lib.Ieee.Fits.{down_pos, and_l, and_r}
use lib.Ieee.Nearest.{div_same}
use Rattle.laws.specs.Choice.{when◌then◌else◌}
use Rattle.solve.specs.Taps.{nearest_of, size_of, rounded_of}

-- ---- twice m * 2 ^ e is a whole number of the smallest values
record Shift (e : ℤ) (l : ℕ) : Type 0 where
  j : ℕ
  same : up e * 2 * 2 ^ l ≡ 2 ^ j * down e

fewer : (k l : ℕ) → 2 ^ k ≤ 2 ^ l → k ≤ l
fewer k l h = le_of_suc-le-suc (lt_of_not-le (λ (g : suc l ≤ k). not-le_of_lt (pow-lt g) h))

back : (k l : ℕ) → k ≤ l → 1 + l ≡ 1 + (l - k) + k
back k l h = omega arith

shift : (e : ℤ) (l : ℕ) → down e ≤ 2 ^ l → Shift e l
shift (pos k) l h = record {
  j = k + (1 + l);
  same = mul_assoc (2 ^ k) 2 (2 ^ l) ∙ ap (λ (x : ℕ). 2 ^ k * x) (sym (pow-add 2 1 l)) ∙ sym (pow-add 2 k (1 + l)) ∙ sym (mul-one (2 ^ (k + (1 + l))));
}
shift (negsuc k) l h = record {
  j = 1 + (l - suc k);
  same = sym (pow-add 2 1 l) ∙ ap (λ (x : ℕ). 2 ^ x) (back (suc k) l (fewer (suc k) l h)) ∙ pow-add 2 (1 + (l - suc k)) (suc k);
}

regroup : (m u X q d : ℕ) → u * 2 * X ≡ q * d → m * u * 2 * X ≡ m * q * (d * 1)
regroup m u X q d h =
    ap (λ (x : ℕ). x * X) (mul_assoc m u 2)
    ∙ mul_assoc m (u * 2) X
    ∙ ap (λ (x : ℕ). m * x) h
    ∙ sym (mul_assoc m q d)
    ∙ ap (λ (x : ℕ). m * q * x) (sym (mul-one d))

scale : (a A d X : ℕ) → 0 < X → a < A * d → a * 2 * X < A * 2 * X * (d * 1)
scale a A d X p h =
    subst (λ (x : ℕ). a * 2 * X < x) (simp (mul_assoc, mul_comm, mul_left_comm, one-mul)) (mul-lt-mul_of_pos_right (mul-lt-mul_of_pos_right {k = 2} h (lit< tt)) p)

fine : (m u d q X : ℕ) → 0 < X → u * 2 * X ≡ q * d → m * u < 2 ^ 15 * d → m * q < 2 ^ 15 * 2 * X
fine m u d q X p e h = lt_of_mul-lt-mul_right (d * 1) (subst (λ (x : ℕ). x < 2 ^ 15 * 2 * X * (d * 1)) (regroup m u X q d e) (scale (m * u) (2 ^ 15) d X p h))

pub doubled : (m : ℕ) (e : ℤ) → m < 2 ^ 53 → down e ≤ 2 ^ 1074 → m * up e < 2 ^ 15 * down e
    → HasValue (round binary64 false (m * up e * 2) (down e * 1)) false (m * up e * 2) (down e * 1)
doubled m e p l h =
    let s = shift e 1074 l in
    round_exact binary64 false (m * up e * 2) (down e * 1) m s.j (mul-pos (down_pos e) (lit< tt)) p
    (lt_of_lt_of_le (fine m (up e) (down e) (2 ^ s.j) (2 ^ 1074) (lit< tt) s.same h) (lit≤ tt))
    (regroup m (up e) (2 ^ 1074) (2 ^ s.j) (down e) s.same)

-- ---- the whole part of a float that has a value
pub record Cut (x : Float) (a c : ℕ) : Type 0 where
  pub above : T (lt (fin true 1 (pos 0)) x)
  pub below : T (lt x (fin false 1 (pos 64)))
  pub is : to_unsigned 64 x ≡ a / c

positive : (d x : ℕ) → 0 < d → 0 < 1 * d + x * 1
positive d x h = omega arith

under : (x c a d B : ℕ) → 0 < d → x * c ≡ a * d → a < B * c → x * 1 < B * d
under x c a d B p e h =
    lt_of_mul-lt-mul_right c
    (subst (λ (y : ℕ). y < B * d * c) (sym (ap (λ (z : ℕ). z * c) (mul-one x) ∙ e))
    (subst (λ (y : ℕ). a * d < y) (simp (mul_assoc, mul_comm, mul_left_comm)) (mul-lt-mul_of_pos_right h p)))

last : (n : ℕ) → n < 2 ^ 64 → n ≤ 2 ^ 64 - 1
last n h = omega arith

pub cut : (x : Float) (a c : ℕ) → 0 < c → a < 2 ^ 64 * c → HasValue x false a c → Cut x a c
unfolding lt to_unsigned
cut nan a c C h v = absurd v
cut (inf s) a c C h v = absurd v
cut (fin true m e) a c C h v = absurd (subst T v.0 tt)
cut (fin false m e) a c C h v =
    let q : m * up e / down e ≡ a / c = div_same (m * up e) (down e) a c (down_pos e) C v.1 in
    record {
      above = lt→ltb 0 (1 * down e + m * up e * 1) (positive (down e) (m * up e) (down_pos e));
      below = lt→ltb (m * up e * 1) (2 ^ 64 * down e) (under (m * up e) c a (down e) (2 ^ 64) (down_pos e) v.1 h);
      is = ap (λ (n : ℕ). min n (2 ^ 64 - 1)) q ∙ min-eq_left (last (a / c) ((div-lt_iff_lt-mul C).1 h));
    }

-- ---- halves up, by the whole part of twice the number
pub halves : (a d : ℕ) → 0 < d → nearest_of a d ≡ (2 * a / d + 1) / 2
halves a d h =
    ap (λ (x : ℕ). (2 * a + d) / x) (mul_comm 2 d) ∙ sym (div-div-eq-div-mul (2 * a + d) d 2) ∙ ap (λ (x : ℕ). x / 2) (add-div_right (2 * a) h)

-- ---- a double above 0 and below 32768
pub record Small (y : Float) : Type 0 where
  pub above : T (lt (fin true 1 (pos 0)) (mul binary64 y (fin false 1 (pos 1))))
  pub below : T (lt (mul binary64 y (fin false 1 (pos 1))) (fin false 1 (pos 64)))
  pub few : to_unsigned 64 (mul binary64 y (fin false 1 (pos 1))) < 2 ^ 16
  pub is : (to_unsigned 64 (mul binary64 y (fin false 1 (pos 1))) + 1) / 2 ≡ size_of y

room : (a d : ℕ) → a < 2 ^ 15 * d → a * 2 < 2 ^ 16 * (d * 1)
room a d h = omega arith

wide : (a d : ℕ) → a < 2 ^ 16 * d → a < 2 ^ 64 * d
wide a d h = omega arith

at_most : (n : ℕ) → n < 2 ^ 16 → (n + 1) / 2 ≤ 32768
at_most n h = omega arith

whole : (a d : ℕ) → a * 2 / (d * 1) ≡ 2 * a / d
whole a d = ap (λ (x : ℕ). a * 2 / x) (mul-one d) ∙ ap (λ (x : ℕ). x / d) (mul_comm a 2)

none : {X : Type 0} → false ≡ true → X
none e = absurd (subst T (sym e) tt)

small_fin : (m : ℕ) (e : ℤ) → m < 2 ^ 53 → down e ≤ 2 ^ 1074 → m * up e < 2 ^ 15 * down e → Small (fin false m e)
unfolding mul size_of
small_fin m e p l h =
    let a = m * up e in
    let d = down e in
    let D : 0 < d * 1 = mul-pos (down_pos e) (lit< tt) in
    let r : a * 2 < 2 ^ 16 * (d * 1) = room a d h in
    let c = cut (round binary64 false (a * 2) (d * 1)) (a * 2) (d * 1) D (wide (a * 2) (d * 1) r) (doubled m e p l h) in
    let n : a * 2 / (d * 1) < 2 ^ 16 = (div-lt_iff_lt-mul D).1 r in
    let g : (a * 2 / (d * 1) + 1) / 2 ≡ nearest_of a d = ap (λ (x : ℕ). (x + 1) / 2) (whole a d) ∙ sym (halves a d (down_pos e)) in
    record {
      above = c.above;
      below = c.below;
      few = subst (λ (x : ℕ). x < 2 ^ 16) (sym c.is) n;
      is = ap (λ (x : ℕ). (x + 1) / 2) c.is ∙ g ∙ sym (min-eq_left (subst (λ (x : ℕ). x ≤ 32768) g (at_most (a * 2 / (d * 1)) n)));
    }

lower : (a d : ℕ) → a * 1 < 1 * 2 ^ 15 * d → a < 2 ^ 15 * d
lower a d h = omega arith

pub small : (y : Float) → T (fits binary64 y) → lt (fin false 0 (pos 0)) y ≡ true → lt y (fin false 1 (pos 15)) ≡ true → Small y
unfolding lt fits
small nan f p q = none p
small (inf true) f p q = none p
small (inf false) f p q = none q
small (fin true m e) f p q = none p
small (fin false zero e) f p q = absurd (nothing (down e) (up e) (ltb-true (0 * down e) (0 * up e * 1) p))
  where
    nothing : (d u : ℕ) → 0 * d < 0 * u * 1 → ⊥
    nothing d u h = omega arith
small (fin false (suc m) e) f p q =
    let A = eqb (suc m % 2) 1 in
    let B = ltb (suc m) (2 ^ 53) in
    let C = leb (down e) (2 ^ 1074) in
    let a = and_l (A && B && C) (ltb (suc m * up e) (2 ^ 1024 * down e)) f in
    small_fin (suc m) e (ltb→lt (suc m) (2 ^ 53) (and_r A B (and_l (A && B) C a))) (leb→le (down e) (2 ^ 1074) (and_r (A && B) C a))
    (lower (suc m * up e) (down e) (ltb-true (suc m * up e * 1) (2 ^ 15 * down e) q))

-- ---- a float from 32768 on
upper : (a d : ℕ) → 2 ^ 15 * d ≤ a * 1 → 2 ^ 16 * d ≤ 2 * a
upper a d h = omega arith

at_least : (n : ℕ) → 2 ^ 16 ≤ n → 32768 ≤ (n + 1) / 2
at_least n h = omega arith

pub large : (y : Float) → lt (fin false 0 (pos 0)) y ≡ true → lt y (fin false 1 (pos 15)) ≡ false → size_of y ≡ 32768
unfolding lt size_of
large nan p q = none p
large (inf s) p q = refl
large (fin true m e) p q = none p
large (fin false m e) p q =
    min-eq_right
    (subst (λ (x : ℕ). 32768 ≤ x) (sym (halves (m * up e) (down e) (down_pos e)))
    (at_least (2 * (m * up e) / down e) ((le-div_iff_mul-le (down_pos e)).1 (upper (m * up e) (down e) (ltb-false (m * up e * 1) (2 ^ 15 * down e) q)))))

-- ---- the rounded number, by its sign
less : (h : ℕ) → min (min h 32768) 32767 ≡ min h 32767
less h = omega arith

pub rounded_pos : (y : Float) → lt (fin false 0 (pos 0)) y ≡ true → rounded_of y ≡ pos (min (size_of y) 32767)
unfolding lt rounded_of when◌then◌else◌ size_of
rounded_pos nan p = none p
rounded_pos (inf true) p = none p
rounded_pos (inf false) p = refl
rounded_pos (fin true m e) p = none p
rounded_pos (fin false m e) p = ap pos (sym (less (nearest_of (m * up e) (down e))))

pub rounded_neg : (y : Float) → lt y (fin false 0 (pos 0)) ≡ true → rounded_of y ≡ neg_ℤ (pos (size_of (neg y)))
unfolding lt rounded_of when◌then◌else◌ size_of neg
rounded_neg nan p = none p
rounded_neg (inf true) p = refl
rounded_neg (inf false) p = none p
rounded_neg (fin true m e) p = refl
rounded_neg (fin false m e) p = absurd (nothing (m * up e) (down e) (ltb-true (m * up e * 1) (0 * down e) p))
  where
    nothing : (a d : ℕ) → a * 1 < 0 * d → ⊥
    nothing a d h = omega arith

-- and a negative one, negated, is above 0
pub above_neg : (y : Float) → lt y (fin false 0 (pos 0)) ≡ true → lt (fin false 0 (pos 0)) (neg y) ≡ true
unfolding lt neg
above_neg nan p = none p
above_neg (inf true) p = refl
above_neg (inf false) p = none p
above_neg (fin true m e) p = lt-ltb (0 * down e) (m * up e * 1) (turned (m * up e) (down e) (ltb-true 0 (m * up e * 1 + 0 * down e) p))
  where
    turned : (a d : ℕ) → 0 < a * 1 + 0 * d → 0 * d < a * 1
    turned a d h = omega arith
above_neg (fin false m e) p = absurd (nothing (m * up e) (down e) (ltb-true (m * up e * 1) (0 * down e) p))
  where
    nothing : (a d : ℕ) → a * 1 < 0 * d → ⊥
    nothing a d h = omega arith

-- neither above 0 nor below: a zero or a NaN
zero_up : (a d : ℕ) → a ≡ 0 → 0 < d → nearest_of a d ≡ 0
zero_up a d e h = halves a d h ∙ ap (λ (x : ℕ). (2 * x / d + 1) / 2) e ∙ ap (λ (x : ℕ). (x + 1) / 2) (zero-div d)

pub rounded_zero : (y : Float) → lt (fin false 0 (pos 0)) y ≡ false → lt y (fin false 0 (pos 0)) ≡ false → rounded_of y ≡ pos 0
unfolding lt rounded_of when◌then◌else◌
rounded_zero nan p q = refl
rounded_zero (inf true) p q = none (sym q)
rounded_zero (inf false) p q = none (sym p)
rounded_zero (fin true m e) p q =
    ap (λ (x : ℕ). neg_ℤ (pos (min x 32768))) (zero_up (m * up e) (down e) (gone (m * up e) (down e) (ltb-false 0 (m * up e * 1 + 0 * down e) q)) (down_pos e))
  where
    gone : (a d : ℕ) → a * 1 + 0 * d ≤ 0 → a ≡ 0
    gone a d h = omega arith
rounded_zero (fin false m e) p q =
    ap (λ (x : ℕ). pos (min x 32767)) (zero_up (m * up e) (down e) (gone (m * up e) (down e) (ltb-false (0 * down e) (m * up e * 1) p)) (down_pos e))
  where
    gone : (a d : ℕ) → a * 1 ≤ 0 * d → a ≡ 0
    gone a d h = omega arith

-- ---- what the code makes of the magnitude
pub kept : (n m : ℕ) → n ≡ m → n < 32768 → n ≡ min m 32767
kept n m e h = omega arith

pub capped : (n m : ℕ) → n ≡ m → 32768 ≤ n → 32767 ≡ min m 32767
capped n m e h = omega arith

pub full : (n m : ℕ) → n ≡ m → n ≤ 32768 → 32768 ≤ n → 32768 ≡ m
full n m e h g = omega arith

pub minus_is : (n : ℕ) → pos 0 -ℤ pos n ≡ neg_ℤ (pos n)
minus_is n = +ℤ_idl (neg_ℤ (pos n))

pub neg_fits : (n : ℕ) → n < 32768 → SFits w16 (neg_ℤ (pos n))
neg_fits zero h = record { sfits = lit< tt }
neg_fits (suc n) h = record { sfits = less_one n h }
  where
    less_one : (n : ℕ) → suc n < 32768 → n < 32768
    less_one n h = omega arith

-- -(n as i16), read back
pub negated : (n : ℕ) → n < 32768 → to_z w16 (of_z w16 (pos 0 -ℤ to_z w16 n)) ≡ neg_ℤ (pos n)
negated n h =
    ap (λ (z : ℤ). to_z w16 (of_z w16 (pos 0 -ℤ z))) (to_z_pos w16 n h)
    ∙ ap (λ (z : ℤ). to_z w16 (of_z w16 z)) (minus_is n)
    ∙ to_z-of_z w16 (neg_ℤ (pos n)) (neg_fits n h)

pub negated_fits : (n : ℕ) → n < 32768 → SFits w16 (pos 0 -ℤ to_z w16 n)
negated_fits n h = subst (λ (z : ℤ). SFits w16 z) (sym (ap (λ (z : ℤ). pos 0 -ℤ z) (to_z_pos w16 n h) ∙ minus_is n)) (neg_fits n h)
