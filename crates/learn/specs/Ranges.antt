-- The ranges of docs/RANGES.md, "Learning", and what the sums and means need; the ranges imply it. At most 67,108,864 = 2^26 numbers are summed.
use Rattle.std.specs.Prelude.{ℕ, ◌+◌, ◌-◌, ◌≤◌, ◌<◌, ◌^◌, Bool, ◌&&◌, List, leb, ℤ, pos, nat_abs}
use Rattle.std.specs.Int.Signed.{le_z}
use Rattle.laws.specs.Choice.{minus}
use Rattle.learn.specs.declared.Learn.{Learn}
use Rattle.learn.specs.Learning.{all_below, sum_at, count_at}

-- 2^26 numbers from -32,768 to 32,767
unfoldable pub sum_in_range : ℤ → Bool
sum_in_range z = le_z (minus (2 ^ 41)) z && le_z z (pos (2 ^ 41 - 2 ^ 26))

unfoldable pub sums_in_range : List ℤ → Bool
sums_in_range sum = all_below (λ (i : ℕ). sum_in_range (sum_at sum i)) 124

unfoldable pub counts_in_range : List ℕ → Bool
counts_in_range count = all_below (λ (i : ℕ). leb (count_at count i) 67108864) 62

-- 2^26 samples: |y|² from 0 to 2^31, and best from -2^33 to 2^33
unfoldable pub learn_in_range : Learn → Bool
learn_in_range l =
    sums_in_range l.sum && counts_in_range l.count && le_z (minus (2 ^ 59)) l.noise && le_z l.noise (pos (2 ^ 59 + 2 ^ 57)) && leb l.samples 67108864

abbrev pub SumsOk : List ℤ → Type 0
SumsOk sum = (i : ℕ) → i < 124 → nat_abs (sum_at sum i) ≤ 2 ^ 41

pub record LearnOk (l : Learn) : Type 0 where
  pub sums : SumsOk l.sum
  pub noise : nat_abs l.noise ≤ 2 ^ 59 + 2 ^ 57
