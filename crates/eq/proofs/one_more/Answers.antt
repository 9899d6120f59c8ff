-- `eq::one_more` meets its contract: it is that of `plain`. Assumes nothing.
use mir.Facts.{to_z-of_z}
use Rattle.eq.proofs.one_more.Goals as goal

pub returns : goal.returns
returns c = rw (to_z-of_z c.ranges.i, to_z-of_z c.ranges.q) at c.pushed.ensures
