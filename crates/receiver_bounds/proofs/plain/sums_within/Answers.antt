-- `receiver_bounds::plain::sums_within` meets its contract. Assumes nothing.
use Rattle.receiver_bounds.specs.Bounds.{sums_within}
use Rattle.receiver_bounds.proofs.plain.sums_within.Goals as goal

pub returns : goal.returns
unfolding sums_within
returns c = rw (c.upper_in_range.ensures, c.right_within.ensures)
