-- `receiver_bounds::plain::meta_within` meets its contract. Assumes nothing.
use Rattle.receiver_bounds.specs.Bounds.{meta_within}
use Rattle.receiver_bounds.proofs.plain.meta_within.Goals as goal

pub returns : goal.returns
unfolding meta_within
returns c = rw (c.between.ensures, c.slot_in_range.ensures)
