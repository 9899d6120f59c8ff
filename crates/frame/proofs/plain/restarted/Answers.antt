-- `frame::plain::restarted` meets its contract. Assumes nothing.
use Rattle.frame.specs.Align.{restarted_back}
use Rattle.frame.proofs.plain.restarted.Goals as goal

pub returns : goal.returns
unfolding restarted_back
returns c = rw (c.started-2.ensures, c.started.ensures)
