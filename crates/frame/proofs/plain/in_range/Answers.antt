-- `frame::plain::in_range` meets its contract. Assumes nothing.
use Rattle.frame.specs.Ranges.{back_in_range}
use Rattle.frame.proofs.plain.in_range.Goals as goal

pub returns : goal.returns
unfolding back_in_range
returns c = rw (c.in_range.ensures, c.in_range-2.ensures, c.last_in_range.ensures)
