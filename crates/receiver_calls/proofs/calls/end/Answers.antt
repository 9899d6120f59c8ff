-- `receiver_calls::calls::end` meets its contract. Assumes nothing.
use Rattle.receiver_calls.specs.Calls.{end_call}
use Rattle.receiver_calls.proofs.calls.end.Goals as goal

pub returns-in-Ok : goal.returns-in-Ok
unfolding end_call
returns-in-Ok c = rw (c.ended.ensures, ← c.end_sums.ensures, c.in-Ok.is)

pub returns-in-Err : goal.returns-in-Err
unfolding end_call
returns-in-Err c = rw (c.ended-in-Err.ensures, ← c.end_sums.ensures, c.number.ensures, c.in-Err.is)
