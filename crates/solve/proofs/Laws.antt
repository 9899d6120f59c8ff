-- Laws of the definitions that the functions of solve are proved by. Assumes nothing.
use Rattle.std.proofs.Common.{◌≡◌, ℕ, zero, suc, ◌+◌, ◌-◌, ◌*◌, ◌/◌, ◌^◌, ◌<◌, ◌≤◌, Bool, true, false, ◌&&◌, ◌||◌, T, eqb, ltb, leb, List, [], ◌∷◌, ◌++◌, length, get_or, drop, set, replicate, ℤ, pos, negsuc, nat_abs, sym, refl, ap, ◌∙◌, ⊎_elim, append_assoc, append-nil, zero-le, le_of_suc-le-suc, not-suc-le-zero, eq-or-lt_of_le, mul-le-mul_left, add-one, arith, le→leb, lt→ltb, length-append, drop_of_length-le, drop-cons, ltb-false, ltb-true, le-ltb, lt-ltb, leb-true, to_z, of_z, to_z-of_z, w64}
use lib.Ieee.{Float, nan, binary64, of_bits, in_float}
use lib.ListN.{length-replicate}
use lib.Seq.{set_at}
use lib.Signed.{lt_z}
use Rattle.laws.proofs.Tests.{and_both, by_test, neither}
use Rattle.solve.specs.Answers.{wide, any_wide, outside_of}
use Rattle.solve.specs.System.{Narrow, parts}
use Rattle.sums.specs.declared.Sums.{Sums}
use Rattle.solve_step.specs.Complex.{with_entry}
use Rattle.solve_step.specs.declared.complex.Complex.{Complex}

-- ---- the range
or_no : (b : Bool) → (b || false) ≡ b
or_no true = refl
or_no false = refl

pub wide_is : (v : ℤ) → (lt_z v (negsuc (2 ^ 53 - 1)) || lt_z (pos (2 ^ 53)) v) ≡ wide v
wide_is (pos a) = refl
wide_is (negsuc a) = or_no (ltb (2 ^ 53 - 1) a) ∙ one_up (2 ^ 53 - 1) a
  where
    one_up : (m a : ℕ) → ltb m a ≡ ltb (m + 1) (suc a)
    one_up m a =
        by_test (ltb m a)
        (λ t. t ∙ sym (lt-ltb (m + 1) (suc a) (omega (arith, ltb-true m a t))))
        (λ t. t ∙ sym (le-ltb (m + 1) (suc a) (omega (arith, ltb-false m a t))))

-- a test that finds none leaves every entry narrow, and so a double
within : (l : List ℤ) (k : ℕ) → any_wide l ≡ false → nat_abs (get_or l k (pos 0)) ≤ 2 ^ 53
within [] k e = zero-le
within (v ∷ l) zero e = ltb-false (2 ^ 53) (nat_abs v) (neither (wide v) (any_wide l) e).0
within (v ∷ l) (suc k) e = within l k (neither (wide v) (any_wide l) e).1

narrow : (l : List ℤ) → any_wide l ≡ false → Narrow l
narrow l e = record { small = λ k. within l k e }

pub taken : (s : Sums) → outside_of s ≡ false → (Narrow s.r) × (Narrow s.p)
unfolding outside_of
taken s e =
    let p = neither (eqb s.count 0 || ltb 4194304 s.count || any_wide s.r) (any_wide s.p) e in
    let r = neither (eqb s.count 0 || ltb 4194304 s.count) (any_wide s.r) p.0 in
    (narrow s.r r.1, narrow s.p p.1)

pub sum_in_float : (v : ℤ) → nat_abs v ≤ 2 ^ 53 → T (in_float binary64 v)
unfolding in_float
sum_in_float (pos n) h = le→leb n (2 ^ 53) h
sum_in_float (negsuc n) h = lt→ltb n (2 ^ 53) h

pub sum_fits : (v : ℤ) → nat_abs v ≤ 2 ^ 53 → to_z w64 (of_z w64 v) ≡ v
sum_fits (pos n) h = to_z-of_z {w = w64} (record { sfits = omega arith })
sum_fits (negsuc n) h = to_z-of_z {w = w64} (record { sfits = omega arith })

-- ---- the place of an upper entry
-- a test that all numbers below n pass
abbrev every : (ℕ → Bool) → ℕ → Bool
every f zero = true
every f (suc n) = every f n && f n

each : (f : ℕ → Bool) (n : ℕ) → every f n ≡ true → (r : ℕ) → r < n → f r ≡ true
each f zero e r h = absurd (not-suc-le-zero h)
each f (suc n) e r h =
    let b = and_both (every f n) (f n) e in
    ⊎_elim (λ (q : r ≡ n). ap f q ∙ b.1) (λ (k : r < n). each f n b.0 r k) (eq-or-lt_of_le (le_of_suc-le-suc h))

pub product_most : (r : ℕ) → r < 11 → r * (r + 1) ≤ r * 11
product_most r h = mul-le-mul_left r (omega arith)

pub start_most : (r : ℕ) → r < 11 → r * 11 - r * (r + 1) / 2 ≤ 55
start_most r h = leb-true (r * 11 - r * (r + 1) / 2) 55 (each (λ r. leb (r * 11 - r * (r + 1) / 2) 55) 11 refl r h)

-- ---- what an array is before it is written
unfoldable pub zeros : ℕ → List Float
zeros n = replicate n (of_bits binary64 0)

length_zeros : (n : ℕ) → length (zeros n) ≡ n
unfolding zeros
length_zeros n = length-replicate n (of_bits binary64 0)

-- ---- a loop that writes pairs from the start: after k turns the array holds `parts f k ++ drop (2 * k) ys`
pub length_parts : (f : ℕ → Complex) (n : ℕ) → length (parts f n) ≡ 2 * n
unfolding parts
length_parts f zero = refl
length_parts f (suc n) = length-append (parts f n) ((f n).re ∷ (f n).im ∷ []) ∙ omega (arith, length_parts f n)

two_sets : (xs ys : List Float) (n : ℕ) (a b x y : Float) → length xs ≡ n
    → set (set (xs ++ x ∷ y ∷ ys) n a) (n + 1) b ≡ (xs ++ (a ∷ b ∷ [])) ++ ys
two_sets xs ys n a b x y e =
    ap (λ (l : List Float). set l (n + 1) b) (set_at xs x (y ∷ ys) a n e ∙ sym (append_assoc xs (a ∷ []) (y ∷ ys)))
    ∙ set_at (xs ++ (a ∷ [])) y ys b (n + 1) (length-append xs (a ∷ []) ∙ ap (λ (k : ℕ). k + 1) e)
    ∙ append_assoc xs (a ∷ []) (b ∷ ys)
    ∙ sym (append_assoc xs (a ∷ b ∷ []) ys)

next_pair : (ys : List Float) (k : ℕ) → 2 * k + 1 < length ys
    → drop (2 * k) ys ≡ get_or ys (2 * k) nan ∷ get_or ys (suc (2 * k)) nan ∷ drop (2 * (k + 1)) ys
next_pair ys k h =
    drop-cons ys (2 * k) nan (omega arith)
    ∙ ap (λ (l : List Float). get_or ys (2 * k) nan ∷ l)
    (drop-cons ys (suc (2 * k)) nan (omega arith) ∙ ap (λ (j : ℕ). get_or ys (suc (2 * k)) nan ∷ drop j ys) (twice k))
  where
    twice : (k : ℕ) → suc (suc (2 * k)) ≡ 2 * (k + 1)
    twice k = omega arith

-- a turn, and the end, of an array of n pairs
pub parts_turn : (f : ℕ → Complex) (n k : ℕ) (v : Complex) (a : List Float) → k < n → a ≡ parts f k ++ drop (2 * k) (zeros (2 * n)) → v ≡ f k
    → with_entry a k v ≡ parts f (k + 1) ++ drop (2 * (k + 1)) (zeros (2 * n))
unfolding parts with_entry
parts_turn f n k v a h i e =
    let ys = zeros (2 * n) in
    rw (i, next_pair ys k (omega (arith, length_zeros (2 * n))), e, add-one k)
    (two_sets (parts f k) (drop (2 * suc k) ys) (2 * k) (f k).re (f k).im (get_or ys (2 * k) nan) (get_or ys (suc (2 * k)) nan) (length_parts f k))

all-written : {A : Type 0} (xs ys : List A) (n : ℕ) → length ys ≤ n → xs ++ drop n ys ≡ xs
all-written xs ys n h = ap (λ l. xs ++ l) (drop_of_length-le ys h) ∙ append-nil xs

pub parts_ended : (f : ℕ → Complex) (n k : ℕ) → k ≡ n → parts f k ++ drop (2 * k) (zeros (2 * n)) ≡ parts f n
parts_ended f n k e = rw e (all-written (parts f n) (zeros (2 * n)) (2 * n) (omega (arith, length_zeros (2 * n))))
