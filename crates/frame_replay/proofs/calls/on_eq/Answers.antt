-- `frame_replay::calls::on_eq` meets its contract. Assumes nothing.
use Rattle.frame_replay.specs.Calls.{eq_call}
use Rattle.frame_replay.proofs.calls.on_eq.Goals as goal

pub returns : goal.returns
unfolding eq_call
returns c = rw (c.turned.ensures, c.with_eq.ensures, c.turn-t.ensures)
