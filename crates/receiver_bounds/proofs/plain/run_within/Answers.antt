-- `receiver_bounds::plain::run_within` meets its contract. Assumes nothing.
use Rattle.receiver_bounds.specs.Bounds.{run_within}
use Rattle.receiver_bounds.proofs.plain.run_within.Goals as goal

pub returns : goal.returns
unfolding run_within
returns c = rw (c.tally_within.ensures, c.lock_in_range.ensures, c.stage_within.ensures, c.course_in_range.ensures)
