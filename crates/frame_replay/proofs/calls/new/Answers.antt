-- `frame_replay::calls::new` meets its contract. Assumes nothing.
use Rattle.frame_replay.specs.Calls.{new_call}
use Rattle.frame_replay.proofs.calls.new.Goals as goal

pub returns : goal.returns
unfolding new_call
returns c = rw (c.plain.ensures, c.with_back-n.ensures, c.new.ensures)
