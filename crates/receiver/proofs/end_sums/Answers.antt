-- `receiver::end_sums` meets its contract. Assumes nothing.
use Rattle.receiver.specs.Answers.{end_answer}
use Rattle.receiver.proofs.end_sums.Goals as goal

pub returns-in-Ok : goal.returns-in-Ok
unfolding end_answer
returns-in-Ok c = rw (← c.range_refusal.ensures, c.in-Ok.is, c.ended.ensures)

pub returns-in-Err : goal.returns-in-Err
unfolding end_answer
returns-in-Err c = rw (← c.range_refusal.ensures, c.in-Err.is)
