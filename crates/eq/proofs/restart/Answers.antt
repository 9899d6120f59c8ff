use Rattle.eq.specs.Answers.{restart_answer}
use mathlib.Core.Path.{◌∙◌, sym}
use Rattle.eq.proofs.restart.Goals as goal

pub returns-in-Ok : goal.returns-in-Ok
unfolding restart_answer
returns-in-Ok c = rw (c.started.ensures, sym c.range_refusal.ensures ∙ c.in-Ok.is)

pub returns-in-Err : goal.returns-in-Err
unfolding restart_answer
returns-in-Err c = rw (sym c.range_refusal.ensures ∙ c.in-Err.is)
