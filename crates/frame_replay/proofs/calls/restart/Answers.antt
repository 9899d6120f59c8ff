-- `frame_replay::calls::restart` meets its contract. Assumes nothing.
use Rattle.frame_replay.specs.Calls.{restart_call}
use Rattle.frame_replay.proofs.calls.restart.Goals as goal

pub returns-in-Ok : goal.returns-in-Ok
unfolding restart_call
returns-in-Ok c = rw (c.plain.ensures, c.with_back.ensures, ← c.in-Ok.ensures)

pub returns-in-Err : goal.returns-in-Err
unfolding restart_call
returns-in-Err c = rw (c.plain-in-Err.ensures, c.with_back-in-Err.ensures, c.number.ensures, ← c.in-Err.ensures)
