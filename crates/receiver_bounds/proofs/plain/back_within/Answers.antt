-- `receiver_bounds::plain::back_within` meets its contract. Assumes nothing.
use Rattle.receiver_bounds.specs.Bounds.{back_within}
use Rattle.receiver_bounds.proofs.plain.back_within.Goals as goal

pub returns : goal.returns
unfolding back_within
returns c = rw (c.eq_within.ensures, c.metas_within.ensures, c.last_within.ensures)
