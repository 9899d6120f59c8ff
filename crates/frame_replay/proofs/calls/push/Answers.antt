-- `frame_replay::calls::push` meets its contract. Assumes nothing.
use Rattle.frame_replay.specs.Calls.{push_call}
use Rattle.frame_replay.proofs.calls.push.Goals as goal

pub returns-in-Ok : goal.returns-in-Ok
unfolding push_call
returns-in-Ok c =
    let e = rw c.corrected_at-c.ensures at c.in-Ok.ensures in
    rw (c.out_told.ensures, c.with_back.ensures, ← e)

pub returns-in-Err : goal.returns-in-Err
unfolding push_call
returns-in-Err c =
    let e = rw c.corrected_at-c.ensures at c.in-Err.ensures in
    rw (c.plain.ensures, c.with_back-in-Err.ensures, c.number.ensures, ← e)
