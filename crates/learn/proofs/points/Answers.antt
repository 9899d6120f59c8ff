-- `learn::points` meets its contract. Assumes nothing.
use mathlib.Core.Path.{refl, sym}
use Rattle.learn.specs.Answers.{points_answer, points_slice}
use Rattle.learn.proofs.Laws.{points_taken}
use Rattle.learn.proofs.points.Goals as goal

pub pointed-requires : goal.pointed-requires
pointed-requires c =
    let k = points_taken _ _ _ (sym c.in-Ok.ensures) in
    (k.learn_ok, k.bits_ok, k.long)

pub returns-in-Ok : goal.returns-in-Ok
unfolding points_answer points_slice
returns-in-Ok c =
    let g = c.pointed.ensures in
    rw (g.0, ← c.in-Ok.ensures) (refl, g.1)

pub returns-in-Err : goal.returns-in-Err
unfolding points_answer points_slice
returns-in-Err c = rw (← c.in-Err.ensures) (refl, refl)
