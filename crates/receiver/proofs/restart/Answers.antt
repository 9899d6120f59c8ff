-- `receiver::restart` meets its contract. Assumes nothing.
use Rattle.receiver.specs.Answers.{restart_acc, restart_answer}
use mathlib.Core.Path.{refl}
use Rattle.receiver.proofs.restart.Goals as goal

pub returns-in-Ok : goal.returns-in-Ok
unfolding restart_answer restart_acc
returns-in-Ok c = rw (c.started.ensures, c.kept_of.ensures, c.clear.ensures, ← c.restart.ensures, c.in-Ok.is) (refl, refl)

pub returns-in-Err : goal.returns-in-Err
unfolding restart_answer restart_acc
returns-in-Err c = rw (← c.restart.ensures, c.in-Err.is) (refl, refl)
