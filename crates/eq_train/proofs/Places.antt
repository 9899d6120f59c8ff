-- The places of the upper entries: each row starts where the one before it ends, and place upper_at r c of the products of all rows is
-- conj(x_r) x_c. Assumes nothing.
use mathlib.Core.Path.{◌≡◌, refl, sym, ap, ◌∙◌}
use mathlib.Core.List.{List, [], ◌++◌}
use Prim.Native.Nat.{ℕ, zero, suc, ◌+◌, ◌*◌, ◌-◌, ◌/◌, ◌≤◌, ◌<◌}
use native.Mathlib.Omega.{arith}
use native.Mathlib.Nat.{le_refl, mul-le-mul, not-suc-le-zero, add-zero}
use native.Mathlib.Numerals.{add-one}
use lib.IntN.{ℤ, pos}
use lib.ListN.{length, get_or-append}
use lib.Seq.{get_or-append-add}
use Rattle.sums.specs.Sums.{upper_at}
use Rattle.eq_train.specs.Train.{nth, line_product, row_products, upper_products, right_products, right_product}
use Rattle.eq_train.proofs.Adding.{row_length, upper_length, upper_132}

-- ---- the place of the next column, and of the next row
pub next_column : (r c : ℕ) → upper_at r (suc c) ≡ suc (upper_at r c)
unfolding upper_at
next_column r c = omega arith

pub columns_on : (r c n : ℕ) → upper_at r (c + n) ≡ upper_at r c + n
unfolding upper_at
columns_on r c n = omega arith

half_le : (r : ℕ) → r ≤ 21 → r * (r + 1) / 2 ≤ r * 11
half_le r h = omega (arith, mul-le-mul (le_refl r) (small r h))
  where
    small : (r : ℕ) → r ≤ 21 → r + 1 ≤ 22
    small r h = omega arith

half_suc : (r : ℕ) → suc r * (suc r + 1) / 2 ≡ r * (r + 1) / 2 + suc r
half_suc r = omega arith

pub next_row : (r : ℕ) → r < 11 → upper_at (suc r) (suc r) ≡ upper_at r r + (11 - r)
unfolding upper_at
next_row r h = omega (arith, half_suc r, half_le r (omega arith), half_le (suc r) (omega arith))

pub first-place : upper_at 0 0 ≡ 0
unfolding upper_at
first-place = refl

-- ---- the products from row r on stand from its place on
one_less : (r : ℕ) → suc r ≤ 11 → 11 - r ≡ suc (11 - suc r)
one_less r h = omega arith

pub places-left : (line : List ℤ) (r : ℕ) → r ≤ 11 → 2 * upper_at r r + length (upper_products line r (11 - r)) ≡ 132
places-left line zero h = omega (arith, first-place, upper_132 line)
places-left line (suc r) h =
    let e = rw (one_less r h) at (places-left line r (omega arith)) in
    omega (arith, e, next_row r h, upper_length line r (11 - suc r))

-- past a row
past_row : (line : List ℤ) (r n j : ℕ) → nth (upper_products line r (suc n)) (2 * suc n + j) ≡ nth (upper_products line (suc r) n) j
unfolding upper_products
past_row line r n j =
    ap (λ (m : ℕ). nth (row_products line r r (suc n) ++ upper_products line (suc r) n) (m + j)) (sym (row_length line r r (suc n)))
    ∙ get_or-append-add (row_products line r r (suc n)) (upper_products line (suc r) n) j (pos 0)

pub from_row : (line : List ℤ) (r j : ℕ) → r ≤ 11 → nth (upper_products line 0 11) (2 * upper_at r r + j) ≡ nth (upper_products line r (11 - r)) j
from_row line zero j h = ap (λ (m : ℕ). nth (upper_products line 0 11) m) (start j)
  where
    start : (j : ℕ) → 2 * upper_at 0 0 + j ≡ j
    start j = omega (arith, first-place)
from_row line (suc r) j h =
    ap (λ (m : ℕ). nth (upper_products line 0 11) m) (moved r j h) ∙ from_row line r (2 * (11 - r) + j) (omega arith)
    ∙ rw (one_less r h) (past_row line r (11 - suc r) j)
  where
    moved : (r j : ℕ) → suc r ≤ 11 → 2 * upper_at (suc r) (suc r) + j ≡ 2 * upper_at r r + (2 * (11 - r) + j)
    moved r j h = omega (arith, next_row r h)

-- ---- within a row
in_row : (line : List ℤ) (r c n j : ℕ) → j < n → (nth (row_products line r c n) (2 * j) ≡ (line_product line r (c + j)).re) × (nth (row_products line r c n) (2 * j + 1) ≡ (line_product line r (c + j)).im)
unfolding row_products
in_row line r c zero j h = absurd (not-suc-le-zero h)
in_row line r c (suc n) zero h = rw (add-zero c) (refl, refl)
in_row line r c (suc n) (suc j) h =
    let g = in_row line r (suc c) n j (omega arith) in
    rw (even j, odd j, moved c j) (g.0, g.1)
  where
    even : (j : ℕ) → 2 * suc j ≡ suc (suc (2 * j))
    even j = omega arith

    odd : (j : ℕ) → suc (suc (2 * j)) + 1 ≡ suc (suc (2 * j + 1))
    odd j = omega arith

    moved : (c j : ℕ) → c + suc j ≡ suc c + j
    moved c j = omega arith

row_first : (line : List ℤ) (r n j : ℕ) → j < 2 * suc n → nth (upper_products line r (suc n)) j ≡ nth (row_products line r r (suc n)) j
unfolding upper_products
row_first line r n j h = get_or-append (row_products line r r (suc n)) (upper_products line (suc r) n) (pos 0) j (rw (row_length line r r (suc n)) h)

-- ---- the heart: conj(x_r) x_c stands at place upper_at r c
by_distance : (line : List ℤ) (r d : ℕ) → r + d < 11 →
    (nth (upper_products line 0 11) (2 * upper_at r (r + d)) ≡ (line_product line r (r + d)).re) × (nth (upper_products line 0 11) (2 * upper_at r (r + d) + 1) ≡ (line_product line r (r + d)).im)
by_distance line r d h =
    let g = in_row line r r (suc (10 - r)) d (omega arith) in
    let at : (j : ℕ) → j < 2 * suc (10 - r) → nth (upper_products line 0 11) (2 * upper_at r r + j) ≡ nth (row_products line r r (suc (10 - r))) j =
    λ j l. from_row line r j (omega arith) ∙ rw (rows r (omega arith)) (row_first line r (10 - r) j l) in
    rw (even r d, odd r d) (at (2 * d) (omega arith) ∙ g.0, at (2 * d + 1) (omega arith) ∙ g.1)
  where
    even : (r d : ℕ) → 2 * upper_at r (r + d) ≡ 2 * upper_at r r + 2 * d
    even r d = omega (arith, columns_on r r d)

    odd : (r d : ℕ) → 2 * upper_at r r + 2 * d + 1 ≡ 2 * upper_at r r + (2 * d + 1)
    odd r d = omega arith

    rows : (r : ℕ) → r < 11 → 11 - r ≡ suc (10 - r)
    rows r h = omega arith

beyond : (r c : ℕ) → r ≤ c → r + (c - r) ≡ c
beyond r c h = omega arith

pub upper_re : (line : List ℤ) (r c : ℕ) → r ≤ c → c < 11 → nth (upper_products line 0 11) (2 * upper_at r c) ≡ (line_product line r c).re
upper_re line r c h l = rw (beyond r c h) at (by_distance line r (c - r) (omega arith)).0

pub upper_im : (line : List ℤ) (r c : ℕ) → r ≤ c → c < 11 → nth (upper_products line 0 11) (2 * upper_at r c + 1) ≡ (line_product line r c).im
upper_im line r c h l = rw (beyond r c h) at (by_distance line r (c - r) (omega arith)).1

-- and it is one of the 66
pub upper_in : (r c : ℕ) → r ≤ c → c < 11 → upper_at r c < 66
upper_in r c h l =
    let e = rw (beyond r c h) at (columns_on r r (c - r)) in
    let g = rw (one_less r (omega arith)) at (places-left [] r (omega arith)) in
    omega (arith, e, g, upper_length [] r (11 - suc r))

-- ---- the right-hand products
pub right_at : (line : List ℤ) (di dq : ℤ) (r n j : ℕ) → j < n →
    (nth (right_products line di dq r n) (2 * j) ≡ (right_product line di dq (r + j)).re) × (nth (right_products line di dq r n) (2 * j + 1) ≡ (right_product line di dq (r + j)).im)
unfolding right_products
right_at line di dq r zero j h = absurd (not-suc-le-zero h)
right_at line di dq r (suc n) zero h = rw (add-zero r) (refl, refl)
right_at line di dq r (suc n) (suc j) h =
    let g = right_at line di dq (suc r) n j (omega arith) in
    rw (even j, odd j, moved r j) (g.0, g.1)
  where
    even : (j : ℕ) → 2 * suc j ≡ suc (suc (2 * j))
    even j = omega arith

    odd : (j : ℕ) → suc (suc (2 * j)) + 1 ≡ suc (suc (2 * j + 1))
    odd j = omega arith

    moved : (c j : ℕ) → c + suc j ≡ suc c + j
    moved c j = omega arith

-- ---- as the code steps: a row's places are among the 132, and the next row starts after them
pub row_in : (r : ℕ) → r < 11 → 2 * upper_at r r + 2 * (11 - r) ≤ 132
row_in r h =
    let g = rw (one_less r h) at (places-left [] r (omega arith)) in
    omega (arith, g, upper_length [] r (11 - suc r))

pub row_after : (r at : ℕ) → r < 11 → at ≡ 2 * upper_at r r → at + 2 * (11 - r) ≡ 2 * upper_at (r + 1) (r + 1)
row_after r at h e = rw (add-one r) (omega (arith, next_row r h))
