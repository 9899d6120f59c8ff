-- What is true together of the numbers of a `Learn` that came from calls: docs/RANGES.md, under Learning, what is told jointly.
use Rattle.std.specs.Prelude.{◌≡◌, ℕ, ◌+◌, ◌-◌, ◌*◌, ◌/◌, ◌^◌, ◌≤◌, ◌<◌, ℤ, pos, length, ◌≤ℤ◌}
use Rattle.laws.specs.Choice.{minus}
use Rattle.learn.specs.declared.Learn.{Learn}
use Rattle.learn.specs.Learning.{sum_at, count_at}

-- a number from -m to n
pub record From (m n : ℕ) (z : ℤ) : Type 0 where
  pub low : minus m ≤ℤ z
  pub high : z ≤ℤ pos n

-- a number of 16 bits
abbrev pub Part : ℤ → Type 0
Part = From (2 ^ 15) (2 ^ 15 - 1)

pub record Coherent (l : Learn) : Type 0 where
  -- two sums and a count for each of 62 labels
  pub numbers : length l.sum ≡ 124
  pub labels : length l.count ≡ 62
  -- one more than 67,108,864 is refused
  pub few : (a : ℕ) → a < 62 → count_at l.count a ≤ 67108864
  -- a sum is of as many 16-bit numbers as its label's count says
  pub sums : (i : ℕ) → i < 124 → let n = count_at l.count (i / 2) in From (n * 2 ^ 15) (n * (2 ^ 15 - 1)) (sum_at l.sum i)
  -- the same of the samples, each |y|² + best: from -2^33 to 2^31 + 2^33
  pub samples : l.samples ≤ 67108864
  pub noise : From (l.samples * 2 ^ 33) (l.samples * (2 ^ 33 + 2 ^ 31)) l.noise
