use Rattle.eq.specs.Answers.{output_answer}
use mathlib.Core.Path.{◌∙◌, sym}
use Rattle.eq.proofs.output.Goals as goal

pub returns-in-Ok : goal.returns-in-Ok
unfolding output_answer
returns-in-Ok c = rw (c.output.ensures, sym c.range_refusal.ensures ∙ c.in-Ok.is)

pub returns-in-Err : goal.returns-in-Err
unfolding output_answer
returns-in-Err c = rw (sym c.range_refusal.ensures ∙ c.in-Err.is)
