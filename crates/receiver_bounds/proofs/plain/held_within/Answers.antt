-- `receiver_bounds::plain::held_within` meets its contract. Assumes nothing.
use Rattle.receiver_bounds.specs.Bounds.{held_within}
use Rattle.receiver_bounds.proofs.plain.held_within.Goals as goal

pub returns : goal.returns
unfolding held_within
returns c = rw (c.head_within.ensures, c.between.ensures)
