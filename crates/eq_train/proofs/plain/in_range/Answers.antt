-- `eq_train::plain::in_range` meets its contract. Assumes nothing.
use Rattle.eq_train.specs.Ranges.{sums_in_range}
use Rattle.eq_train.proofs.plain.in_range.Goals as goal

pub returns : goal.returns
unfolding sums_in_range
returns c = rw (c.upper_in_range.ensures, c.right_in_range.ensures)
