-- "Sums hold 66 upper entries, row by row, and 11 right-hand entries, each a pair that starts at zero."
use Rattle.std.specs.Prelude.{ℕ, ◌+◌, ◌-◌, ◌*◌, ◌/◌, pos, replicate}
use Rattle.sums.specs.declared.Sums.{Sums}

-- nothing summed yet
unfoldable pub empty_sums : ℕ → Sums
empty_sums frame = record { frame = frame; count = 0; r = replicate 132 (pos 0); p = replicate 22 (pos 0) }

-- the place of row r and column c, from r on, among the upper entries: rows before r hold 11, 10, .. of them
unfoldable pub upper_at : ℕ → ℕ → ℕ
upper_at r c = r * 11 - r * (r + 1) / 2 + c
