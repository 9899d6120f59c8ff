-- `learn::pilot` meets its contract. Assumes nothing.
use mathlib.Core.Path.{sym}
use mir.Facts.{to_z-of_z}
use Rattle.learn.specs.Answers.{pilot_answer}
use Rattle.learn.proofs.Laws.{pilot_taken}
use Rattle.learn.proofs.pilot.Goals as goal

pub place-requires : goal.place-requires
place-requires c = (pilot_taken _ _ _ (sym c.in-Ok.ensures)).bits_ok

pub piloted-requires : goal.piloted-requires
piloted-requires c =
    let k = pilot_taken _ _ _ (sym c.in-Ok.ensures) in
    (k.learn_ok, c.place.ensures.1, rw c.place.ensures.0 k.room)

pub returns-in-Ok : goal.returns-in-Ok
unfolding pilot_answer
returns-in-Ok c =
    let g = rw (to_z-of_z c.ranges.zi, to_z-of_z c.ranges.zq, c.place.ensures.0) at c.piloted.ensures in
    rw (g, ← c.in-Ok.ensures)

pub returns-in-Err : goal.returns-in-Err
unfolding pilot_answer
returns-in-Err c = rw (← c.in-Err.ensures)
