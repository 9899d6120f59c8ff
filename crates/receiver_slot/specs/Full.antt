-- Whether a slot finds the sums full (8), by two numbers of its back: `overfull`, as a law says.
use Rattle.std.specs.Prelude.{ℕ, ◌+◌, Bool, false, eqb, ltb}
use Rattle.laws.specs.Choice.{when◌then◌else◌}
use Rattle.frame_line.specs.Line.{gap_at}
use Rattle.frame.specs.declared.Back.{Back}

-- the trainings of a slot: its 24 sync symbols, but for the first five where the line was empty
unfoldable pub trainings_on : ℕ → ℕ
trainings_on filled = when eqb filled 11 then 24 else 19

-- a gap closes the sums
unfoldable pub full_at : Back → ℕ → Bool
full_at b at =
    when b.eq.opened
    then when gap_at b.last at then false else ltb 4194304 (b.eq.sums.count + trainings_on b.eq.filled)
    else false
