use Rattle.eq.specs.Answers.{train_answer}
use mathlib.Core.Path.{◌∙◌, sym}
use mir.Facts.{to_z-of_z}
use Rattle.eq.proofs.Laws.{taking, train_ok}
use Rattle.eq.proofs.train.Goals as goal

pub trained-requires : goal.trained-requires
trained-requires c = train_ok c.args.e (taking c.args.e (sym c.train_refusal.ensures ∙ c.in-Ok.is))

pub returns-in-Ok : goal.returns-in-Ok
unfolding train_answer
returns-in-Ok c =
    let g = rw (to_z-of_z c.ranges.di, to_z-of_z c.ranges.dq) at c.trained.ensures in
    rw (g, sym c.train_refusal.ensures ∙ c.in-Ok.is)

pub returns-in-Err : goal.returns-in-Err
unfolding train_answer
returns-in-Err c = rw (sym c.train_refusal.ensures ∙ c.in-Err.is)
