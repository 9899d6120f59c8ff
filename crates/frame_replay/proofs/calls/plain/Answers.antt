-- `frame_replay::calls::plain` meets its contract. Assumes nothing.
use Rattle.frame_replay.specs.Calls.{plain}
use Rattle.frame_replay.proofs.calls.plain.Goals as goal

pub returns : goal.returns
unfolding plain
returns c = rw (c.turned.ensures, c.told-t.ensures, c.no_meta-m.ensures)
