use Rattle.sync.specs.Answers.{restart_acc, restart_answer}
use Rattle.sync.proofs.restart.Goals as goal

pub returns-in-Ok : goal.returns-in-Ok
unfolding restart_answer restart_acc
returns-in-Ok c = (rw (c.started.ensures, ← c.restart_refusal.ensures, c.in-Ok.is), rw (← c.restart_refusal.ensures, c.in-Ok.is) c.clear.ensures)

pub returns-in-Err : goal.returns-in-Err
unfolding restart_answer restart_acc
returns-in-Err c = (rw (← c.restart_refusal.ensures, c.in-Err.is), rw (← c.restart_refusal.ensures, c.in-Err.is))
