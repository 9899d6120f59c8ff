use Rattle.eq.specs.Answers.{push_answer}
use mathlib.Core.Path.{◌∙◌, sym}
use mir.Facts.{to_z-of_z}
use Rattle.eq.proofs.push.Goals as goal

pub returns-in-Ok : goal.returns-in-Ok
unfolding push_answer
returns-in-Ok c =
    let g = rw (to_z-of_z c.ranges.i, to_z-of_z c.ranges.q) at c.one_more-eq.ensures in
    rw (c.output_of.ensures, g, sym c.range_refusal.ensures ∙ c.in-Ok.is)

pub returns-in-Err : goal.returns-in-Err
unfolding push_answer
returns-in-Err c = rw (sym c.range_refusal.ensures ∙ c.in-Err.is)
