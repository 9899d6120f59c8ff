-- `frame_replay::calls::move_up` meets its contract. Assumes nothing.
use Rattle.frame_replay.specs.Calls.{move_call}
use Rattle.frame_replay.proofs.calls.move_up.Goals as goal

pub returns : goal.returns
unfolding move_call
returns c = rw (c.turned.ensures, c.told-t.ensures, c.with_line-n.ensures, c.move_up.ensures, c.meta_at-m.ensures)
