use Rattle.eq.specs.Answers.{load_answer}
use mathlib.Core.Path.{◌∙◌, sym}
use Rattle.eq.proofs.load.Goals as goal

pub returns-in-Ok : goal.returns-in-Ok
unfolding load_answer
returns-in-Ok c = rw (c.loaded.ensures, sym c.range_refusal.ensures ∙ c.in-Ok.is)

pub returns-in-Err : goal.returns-in-Err
unfolding load_answer
returns-in-Err c = rw (sym c.range_refusal.ensures ∙ c.in-Err.is)
