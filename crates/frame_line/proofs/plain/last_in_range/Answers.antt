-- `frame_line::plain::last_in_range` meets its contract. Assumes nothing.
use Rattle.frame_line.specs.Ranges.{last_in_range}
use Rattle.frame_line.proofs.plain.last_in_range.Goals as goal

pub returns-in-None : goal.returns-in-None
unfolding last_in_range
returns-in-None c = rw c.in-None.is

pub returns-in-Some : goal.returns-in-Some
unfolding last_in_range
returns-in-Some c = rw c.in-Some.is
