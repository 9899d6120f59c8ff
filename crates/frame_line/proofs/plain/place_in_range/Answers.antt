-- `frame_line::plain::place_in_range` meets its contract. Assumes nothing.
use Rattle.frame_line.specs.Ranges.{place_in_range}
use Rattle.frame_line.proofs.plain.place_in_range.Goals as goal

pub returns : goal.returns
unfolding place_in_range
returns c = rw c.meta_in_range.ensures
