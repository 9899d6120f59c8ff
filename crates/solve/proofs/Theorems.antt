-- What the definitions of solve mean. Each statement stands above its proof. Assumes nothing.
use Rattle.std.proofs.Common.{◌≡◌, ℕ, zero, suc, ◌+◌, ◌*◌, ◌/◌, ◌%◌, ◌^◌, ◌<◌, ◌≤◌, min, Bool, true, false, List, [], ◌∷◌, ◌++◌, length, get_or, ℤ, pos, negsuc, nat_abs, sym, refl, ap, ◌∙◌, ⊎_elim, le_refl, le_of_suc-le-suc, not-suc-le-zero, div-lt_iff_lt-mul, eq-or-lt_of_le, le-div_iff_mul-le, arith, get_or-append-add}
use lib.Ieee.{Float, nan, inf, fin, binary64, of_bits, of_int, mul, up, down}
use lib.Ieee.Back.{round_whole}
use lib.Ieee.Exact.{HasValue}
use lib.ListN.{get_or-append}
use lib.Seq.{get_or_at}
use Rattle.laws.specs.Choice.{when◌then◌else◌, minus}
use Rattle.solve_step.specs.Complex.{entry_at, place}
use Rattle.solve_step.specs.declared.complex.Complex.{Complex}
use Rattle.solve.proofs.Laws.{taken, length_parts}
use Rattle.solve.specs.Answers.{outside_of}
use Rattle.solve.specs.System.{Narrow, pair_of, entry_of, parts, matrix_of, right_of}
use Rattle.solve.specs.Taps.{nearest_of, rounded_of, tap_of}
use Rattle.sums.specs.declared.Sums.{Sums}

-- ---- CONVERSION IS EXACT: a sum of size at most 2^53 is as a double the same number, of its sign and its size over 1
abbrev pub negative : ℤ → Bool
negative (pos n) = false
negative (negsuc n) = true

pub exact_theorem : (v : ℤ) → nat_abs v ≤ 2 ^ 53 → HasValue (of_int binary64 v) (negative v) (nat_abs v) 1
unfolding of_int
exact_theorem (pos n) h = round_whole binary64 false n h
exact_theorem (negsuc n) h = round_whole binary64 true (suc n) h

-- .. and every sum that is not refused is of that size
pub taken_theorem : (s : Sums) → outside_of s ≡ false → (Narrow s.r) × (Narrow s.p)
taken_theorem = taken

-- ---- THE MATRIX holds at row r and column c that entry, and the right side at row r its pair
pair_before : (l m : List Float) (k : ℕ) → 2 * k + 1 < length l → entry_at (l ++ m) k ≡ entry_at l k
unfolding entry_at
pair_before l m k h = rw (get_or-append l m nan (2 * k) (omega arith), get_or-append l m nan (2 * k + 1) h)

pair_at_lem : (l : List Float) (v : Complex) (k : ℕ) → length l ≡ 2 * k → entry_at (l ++ (v.re ∷ v.im ∷ [])) k ≡ v
unfolding entry_at
pair_at_lem l v k e =
    rw (get_or_at l v.re (v.im ∷ []) nan (2 * k) e, ap (λ (n : ℕ). get_or (l ++ (v.re ∷ v.im ∷ [])) (n + 1) nan) (sym e) ∙ get_or-append-add l (v.re ∷ v.im ∷ []) 1 nan)

parts_at : (f : ℕ → Complex) (n k : ℕ) → k < n → entry_at (parts f n) k ≡ f k
unfolding parts
parts_at f zero k h = absurd (not-suc-le-zero h)
parts_at f (suc n) k h =
    ⊎_elim
    (λ (q : k ≡ n). rw q (pair_at_lem (parts f n) (f n) n (length_parts f n)))
    (λ (j : k < n). pair_before (parts f n) ((f n).re ∷ (f n).im ∷ []) k (omega (arith, length_parts f n)) ∙ parts_at f n k j)
    (eq-or-lt_of_le (le_of_suc-le-suc h))

pub matrix_theorem : (l : List ℤ) (r c : ℕ) → r < 11 → c < 11 → entry_at (matrix_of l) (place r c) ≡ entry_of l r c
unfolding matrix_of
matrix_theorem l r c h k =
    let q : (r * 11 + c) / 11 ≡ r = omega arith in
    let m : (r * 11 + c) % 11 ≡ c = omega arith in
    parts_at (λ k. entry_of l (k / 11) (k % 11)) 121 (r * 11 + c) (omega arith) ∙ rw (q, m)

pub right_theorem : (l : List ℤ) (r : ℕ) → r < 11 → entry_at (right_of l) r ≡ pair_of l r
unfolding right_of
right_theorem l r h = parts_at (pair_of l) 11 r h

-- ---- A TAP is 16,384 times the unknown's part ..
pub scale_theorem : of_bits binary64 0x40d0_0000_0000_0000 ≡ fin false 1 (pos 14)
unfolding of_bits
scale_theorem = refl

-- .. whose size, a / d, is rounded to the n for which n - 1/2 ≤ a / d < n + 1/2, so a half goes away from zero
pub record Rounds (a d n : ℕ) : Type 0 where
  pub low : n * (2 * d) ≤ 2 * a + d
  pub high : 2 * a + d < suc n * (2 * d)

pub nearest_theorem : (a d : ℕ) → 0 < d → Rounds a d (nearest_of a d)
nearest_theorem a d h =
    let p : 0 < 2 * d = omega arith in
    record { low = (le-div_iff_mul-le p).0 (le_refl (nearest_of a d)); high = (div-lt_iff_lt-mul p).0 (le_refl (suc (nearest_of a d))) }

-- with its sign, as long as the tap holds it ..
pub above_theorem : (m : ℕ) (e : ℤ) → nearest_of (m * up e) (down e) ≤ 32767 → rounded_of (fin false m e) ≡ pos (nearest_of (m * up e) (down e))
unfolding rounded_of when◌then◌else◌
above_theorem m e h = ap pos (omega arith)

pub below_theorem : (m : ℕ) (e : ℤ) → nearest_of (m * up e) (down e) ≤ 32768 → rounded_of (fin true m e) ≡ minus (nearest_of (m * up e) (down e))
unfolding rounded_of when◌then◌else◌
below_theorem m e h = let q : min (nearest_of (m * up e) (down e)) 32768 ≡ nearest_of (m * up e) (down e) = omega arith in rw q

-- .. and from there on the last number on its side, as of the infinities; 0 of a NaN
pub past_theorem : (m : ℕ) (e : ℤ) → 32767 ≤ nearest_of (m * up e) (down e) → rounded_of (fin false m e) ≡ pos 32767
unfolding rounded_of when◌then◌else◌
past_theorem m e h = ap pos (omega arith)

pub under_theorem : (m : ℕ) (e : ℤ) → 32768 ≤ nearest_of (m * up e) (down e) → rounded_of (fin true m e) ≡ minus 32768
unfolding rounded_of when◌then◌else◌
under_theorem m e h = let q : min (nearest_of (m * up e) (down e)) 32768 ≡ 32768 = omega arith in rw q

pub not_finite : (rounded_of (inf false) ≡ pos 32767) × (rounded_of (inf true) ≡ minus 32768) × (rounded_of nan ≡ pos 0)
unfolding rounded_of when◌then◌else◌
not_finite = (refl, refl, refl)

-- 2.5 and -2.5 go away from zero; the double before 0.5 goes to 0; 1 is 16,384; -5 saturates; a NaN's tap is 0
pub tap-examples :
    (rounded_of (fin false 5 (negsuc 0)) ≡ pos 3)
    × (rounded_of (fin true 5 (negsuc 0)) ≡ minus 3)
    × (rounded_of (of_bits binary64 0x3fdf_ffff_ffff_ffff) ≡ pos 0)
    × (tap_of (fin false 1 (pos 0)) ≡ pos 16384)
    × (tap_of (fin true 5 (pos 0)) ≡ minus 32768)
    × (tap_of nan ≡ pos 0)
unfolding rounded_of when◌then◌else◌ tap_of of_bits mul
tap-examples = (refl, refl, refl, refl, refl, refl)
