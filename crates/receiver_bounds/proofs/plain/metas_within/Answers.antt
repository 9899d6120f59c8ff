-- `receiver_bounds::plain::metas_within` meets its contract. Assumes nothing.
use Rattle.receiver_bounds.specs.Bounds.{metas_within}
use Rattle.receiver_bounds.proofs.plain.metas_within.Goals as goal

pub returns : goal.returns
unfolding metas_within
returns c = rw (c.meta_within.ensures, c.meta_within-2.ensures, c.meta_within-3.ensures, c.meta_within-4.ensures, c.meta_within-5.ensures)
