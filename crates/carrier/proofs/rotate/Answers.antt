-- `carrier::rotate` meets its contract: what is accepted has a table of 1,024. Assumes nothing.
use mathlib.Core.Path.{sym, ◌∙◌}
use mir.Facts.{to_z-of_z}
use Rattle.carrier.specs.Answers.{rotate_answer}
use Rattle.carrier.proofs.Laws.{rotate_accepts}
use Rattle.carrier.proofs.rotate.Goals as goal

pub rotated-requires : goal.rotated-requires
rotated-requires c = (rotate_accepts c.args.n _ (sym c.rotate.ensures ∙ c.in-Ok.is)).0

pub returns-in-Ok : goal.returns-in-Ok
unfolding rotate_answer
returns-in-Ok c =
    let k = rw (to_z-of_z c.ranges.xi, to_z-of_z c.ranges.xq) at c.rotated.ensures.0 in
    rw (← c.rotate.ensures, c.in-Ok.is, c.advanced.ensures, k)

pub returns-in-Err : goal.returns-in-Err
unfolding rotate_answer
returns-in-Err c = rw (← c.rotate.ensures, c.in-Err.is)
