use Rattle.eq.specs.Answers.{open_answer}
use mathlib.Core.Path.{◌∙◌, sym}
use Rattle.eq.proofs.open.Goals as goal

pub returns-in-Ok : goal.returns-in-Ok
unfolding open_answer
returns-in-Ok c = rw (c.with_sums.ensures, c.new.ensures, sym c.range_refusal.ensures ∙ c.in-Ok.is)

pub returns-in-Err : goal.returns-in-Err
unfolding open_answer
returns-in-Err c = rw (sym c.range_refusal.ensures ∙ c.in-Err.is)
