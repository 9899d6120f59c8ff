-- `frame::plain::started` meets its contract. Assumes nothing.
use Rattle.frame.specs.Align.{started_back}
use Rattle.frame.proofs.plain.started.Goals as goal

pub returns : goal.returns
unfolding started_back
returns c = rw c.none.ensures
