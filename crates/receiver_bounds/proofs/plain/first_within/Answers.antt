-- `receiver_bounds::plain::first_within` meets its contract. Assumes nothing.
use Rattle.receiver_bounds.specs.Bounds.{first_within}
use Rattle.receiver_bounds.proofs.plain.first_within.Goals as goal

pub returns : goal.returns
unfolding first_within
returns c = rw (c.between.ensures, c.corr_within.ensures, c.corr_within-2.ensures)
