-- `receiver::plain::front_within` meets its contract. Assumes nothing.
use Rattle.receiver.specs.Ranges.{front_within}
use Rattle.receiver.proofs.plain.front_within.Goals as goal

pub returns : goal.returns
unfolding front_within
returns c = rw (c.nco_within.ensures, c.window_within.ensures, c.run_within.ensures, c.phase_within.ensures)
