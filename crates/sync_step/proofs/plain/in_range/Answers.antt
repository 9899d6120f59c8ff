use Rattle.sync_step.specs.Ranges.{run_in_range}
use Rattle.sync_step.proofs.plain.in_range.Goals as goal

pub returns : goal.returns
unfolding run_in_range
returns c = rw (c.tally_in_range.ensures, c.lock_in_range.ensures, c.stage_in_range.ensures, c.course_in_range.ensures)
