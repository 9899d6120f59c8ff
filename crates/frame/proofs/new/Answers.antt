-- `frame::new` meets its contract. Assumes nothing.
use Rattle.frame.specs.Align.{new_back}
use Rattle.frame.proofs.new.Goals as goal

pub returns : goal.returns
unfolding new_back
returns c = rw (c.started.ensures, c.new.ensures)
