-- `receiver::loads::eq_answer` meets its contract. Assumes nothing.
use Rattle.receiver.specs.Answers.{eq_answer}
use Rattle.receiver.proofs.loads.eq_answer.Goals as goal

pub returns-in-Ok : goal.returns-in-Ok
unfolding eq_answer
returns-in-Ok c = rw (← c.range_refusal.ensures, c.in-Ok.is, c.with_eq.ensures)

pub returns-in-Err : goal.returns-in-Err
unfolding eq_answer
returns-in-Err c = rw (← c.range_refusal.ensures, c.in-Err.is)
