-- "The pivot is the greatest re × re + im × im, a later row taking over if its size is ≥ the best so far; a pivot answer is either a row with its
-- size or a too-small size", which is one under 1e-24.
-- A NaN: both tests are false of one. It takes over from no row, no row takes over from it, and it is not too small: a column whose first
-- entry is a NaN has that row, and no refusal.
use Rattle.std.specs.Prelude.{List, ℕ, zero, suc, ◌+◌, ◌-◌, Result, Ok, Err, Float}
use Rattle.std.specs.Float.{binary64}
use Rattle.std.specs.Float.Ieee.{lt, le, of_bits}
use Rattle.laws.specs.Choice.{when◌then◌else◌}
use Rattle.solve_step.specs.Complex.{squared_of, entry_at, place}
use Rattle.solve_step.specs.declared.pivot.Best.{Best}
use Rattle.solve_step.specs.declared.pivot.TooSmall.{TooSmall}

-- the double nearest to 1e-24 (Theorems.antt)
abbrev pub tiny : Float
tiny = of_bits binary64 0x3af3_57c2_99a8_8ea7

-- row r, whose entry has size z, against the best so far
unfoldable pub better_of : Best → ℕ → Float → Best
better_of b r z = when le b.size z then record { row = r; size = z } else b

-- n rows from r on are still to be seen
unfoldable pub scan_from : List Float → ℕ → ℕ → Best → ℕ → Best
scan_from a c r b zero = b
scan_from a c r b (suc n) = scan_from a c (suc r) (better_of b r (squared_of (entry_at a (place r c)))) n

unfoldable pub judged_of : Best → Result Best TooSmall
judged_of b = when lt b.size tiny then Err (record { size = b.size }) else Ok b

-- of column c, from row c on
unfoldable pub pivot_of : List Float → ℕ → Result Best TooSmall
pivot_of a c = judged_of (scan_from a c (c + 1) (record { row = c; size = squared_of (entry_at a (place c c)) }) (11 - (c + 1)))
