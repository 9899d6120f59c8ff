-- `learn::noise` meets its contract. Assumes nothing.
use mathlib.Core.Path.{sym}
use mir.Facts.{to_z-of_z}
use Rattle.learn.specs.Answers.{noise_answer}
use Rattle.learn.proofs.Laws.{noise_taken}
use Rattle.learn.proofs.noise.Goals as goal

pub sampled-requires : goal.sampled-requires
sampled-requires c =
    let k = noise_taken _ _ (sym (rw (to_z-of_z c.ranges.best) at c.in-Ok.ensures)) in
    (k.learn_ok, k.room, rw (to_z-of_z c.ranges.best) k.best_ok)

pub returns-in-Ok : goal.returns-in-Ok
unfolding noise_answer
returns-in-Ok c =
    let n = rw (to_z-of_z c.ranges.best) at c.in-Ok.ensures in
    let g = rw (to_z-of_z c.ranges.yi, to_z-of_z c.ranges.yq, to_z-of_z c.ranges.best) at c.sampled.ensures in
    rw (g, ← n)

pub returns-in-Err : goal.returns-in-Err
unfolding noise_answer
returns-in-Err c =
    let n = rw (to_z-of_z c.ranges.best) at c.in-Err.ensures in
    rw (← n)
