use Rattle.eq.specs.Answers.{close_answer}
use mathlib.Core.Path.{◌∙◌, sym}
use Rattle.eq.proofs.close.Goals as goal

pub returns-in-Ok : goal.returns-in-Ok
unfolding close_answer
returns-in-Ok c = rw (c.closed.ensures, sym c.range_refusal.ensures ∙ c.in-Ok.is)

pub returns-in-Err : goal.returns-in-Err
unfolding close_answer
returns-in-Err c = rw (sym c.range_refusal.ensures ∙ c.in-Err.is)
