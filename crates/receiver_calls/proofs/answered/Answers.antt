-- `receiver_calls::answered` meets its contract. Assumes nothing.
use Rattle.receiver_calls.specs.Calls.{answered_turn}
use Rattle.receiver_calls.proofs.answered.Goals as goal

pub returns-in-Ok : goal.returns-in-Ok
unfolding answered_turn
returns-in-Ok c = rw (c.plain.ensures, c.with_receiver.ensures, c.in-Ok.is)

pub returns-in-Err : goal.returns-in-Err
unfolding answered_turn
returns-in-Err c = rw (c.plain-in-Err.ensures, c.with_receiver-in-Err.ensures, c.number.ensures, c.in-Err.is)
