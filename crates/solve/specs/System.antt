-- The system that the sums stand for, in f64. Every sum that is taken is of size at most 2^53 and converts without loss (Theorems.antt).
use Rattle.std.specs.Prelude.{ℕ, zero, suc, ◌+◌, ◌*◌, ◌/◌, ◌%◌, ◌^◌, ◌≤◌, List, [], ◌∷◌, ◌++◌, ℤ, pos, nat_lt, slice_index_or, unsigned_abs, Float}
use Rattle.std.specs.Float.{binary64}
use Rattle.std.specs.Float.Ieee.{of_int}
use Rattle.laws.specs.Choice.{when◌then◌else◌}
use Rattle.solve_step.specs.Complex.{conjugate_of}
use Rattle.solve_step.specs.declared.System.{System}
use Rattle.solve_step.specs.declared.complex.Complex.{Complex}
use Rattle.sums.specs.Sums.{upper_at}
use Rattle.sums.specs.declared.Sums.{Sums}

-- no sum is of size over 2^53
pub record Narrow (l : List ℤ) : Type 0 where
  pub small : (k : ℕ) → unsigned_abs (slice_index_or l k (pos 0)) ≤ 2 ^ 53

-- the k-th pair of a list of sums, each part as a double
unfoldable pub pair_of : List ℤ → ℕ → Complex
pair_of l k = record { re = of_int binary64 (slice_index_or l (2 * k) (pos 0)); im = of_int binary64 (slice_index_or l (2 * k + 1) (pos 0)) }

-- row r and column c of the matrix: above the diagonal the sum of that place; on it and below, the conjugate of the mirror image. So a
-- diagonal entry is the conjugate of its sum: `solve_float` stores this last, and an imaginary part 0 becomes -0.
unfoldable pub entry_of : List ℤ → ℕ → ℕ → Complex
entry_of l r c = when nat_lt r c then pair_of l (upper_at r c) else conjugate_of (pair_of l (upper_at c r))

-- the parts of f 0, f 1, .. f (n - 1) in turn
unfoldable pub parts : (ℕ → Complex) → ℕ → List Float
parts f zero = []
parts f (suc n) = parts f n ++ ((f n).re ∷ (f n).im ∷ [])

-- 11 rows of 11
unfoldable pub matrix_of : List ℤ → List Float
matrix_of l = parts (λ k. entry_of l (k / 11) (k % 11)) 121

unfoldable pub right_of : List ℤ → List Float
right_of l = parts (pair_of l) 11

unfoldable pub sums_system : Sums → System
sums_system s = record { a = matrix_of s.r; b = right_of s.p }
