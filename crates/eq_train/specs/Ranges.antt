-- The ranges of docs/RANGES.md, "Equaliser", for sums, each entry's own; and what a training needs, which they imply.
use Rattle.std.specs.Prelude.{ℕ, zero, suc, ◌+◌, ◌*◌, ◌-◌, ◌≤◌, ◌<◌, ◌^◌, Bool, true, ◌&&◌, leb, eqb, ℤ, pos, nat_abs, List}
use Rattle.std.specs.Int.Signed.{le_z}
use Rattle.laws.specs.Choice.{when◌then◌else◌, minus}
use Rattle.sums.specs.Sums.{upper_at}
use Rattle.sums.specs.declared.Sums.{Sums}
use Rattle.eq_train.specs.Train.{nth}

-- n trainings at most. On the diagonal: a sum of squares of size, each up to 2^31, and nothing imaginary
unfoldable pub diagonal_in_range : ℕ → ℤ → ℤ → Bool
diagonal_in_range n re im = le_z (pos 0) re && le_z re (pos (n * 2 ^ 31)) && eqb (nat_abs im) 0

-- off it, and on the right hand: of products, each with a real part from -(2^31 - 2^16) to 2^31 and an imaginary part within 2^31 - 2^15
unfoldable pub product_in_range : ℕ → ℤ → ℤ → Bool
product_in_range n re im =
    le_z (minus (n * (2 ^ 31 - 2 ^ 16))) re && le_z re (pos (n * 2 ^ 31)) && leb (nat_abs im) (n * (2 ^ 31 - 2 ^ 15))

-- the entry of row r and column c
unfoldable pub entry_in_range : ℕ → List ℤ → ℕ → ℕ → Bool
entry_in_range n s r c =
    let k = 2 * upper_at r c in
    when eqb r c then diagonal_in_range n (nth s k) (nth s (k + 1)) else product_in_range n (nth s k) (nth s (k + 1))

-- m entries of row r from column c on; m rows from r on
unfoldable pub row_in_range : ℕ → List ℤ → ℕ → ℕ → ℕ → Bool
row_in_range n s r c zero = true
row_in_range n s r c (suc m) = entry_in_range n s r c && row_in_range n s r (suc c) m

unfoldable pub upper_in_range : ℕ → List ℤ → ℕ → ℕ → Bool
upper_in_range n s r zero = true
upper_in_range n s r (suc m) = row_in_range n s r r (suc m) && upper_in_range n s (suc r) m

-- m right-hand entries from r on
unfoldable pub right_in_range : ℕ → List ℤ → ℕ → ℕ → Bool
right_in_range n p r zero = true
right_in_range n p r (suc m) = product_in_range n (nth p (2 * r)) (nth p (2 * r + 1)) && right_in_range n p (suc r) m

-- the training that would be one more than 4,194,304 is refused
unfoldable pub sums_in_range : Sums → Bool
sums_in_range s = leb s.count 4194304 && upper_in_range 4194304 s.r 0 11 && right_in_range 4194304 s.p 0 11

-- what a training needs: room for one more, and entries that a product can be added to: those in range, also behind the trainings of a slot
pub record SumsOk (s : Sums) : Type 0 where
  pub count : s.count < 4194304
  pub upper : (k : ℕ) → k < 132 → nat_abs (nth s.r k) ≤ 2 ^ 54
  pub right : (k : ℕ) → k < 22 → nat_abs (nth s.p k) ≤ 2 ^ 54
