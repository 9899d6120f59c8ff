-- `eq_calls::calls::answer` meets its contract. Assumes nothing.
use Rattle.eq_calls.specs.Calls.{answer_call}
use Rattle.eq_calls.proofs.calls.answer.Goals as goal

pub returns-in-Ok : goal.returns-in-Ok
unfolding answer_call
returns-in-Ok c = rw (c.in-Ok.is, c.plain.ensures)

pub returns-in-Err : goal.returns-in-Err
unfolding answer_call
returns-in-Err c = rw (c.in-Err.is, c.plain-in-Err.ensures, c.number.ensures)
