-- `in_force::next` meets its contract. Assumes nothing.
use mathlib.Core.Path.{refl, sym}
use Rattle.in_force.specs.Answers.{next_answer, next_slice}
use Rattle.in_force.proofs.Laws.{next_taken}
use Rattle.in_force.proofs.next.Goals as goal

pub renewed-requires : goal.renewed-requires
renewed-requires c =
    let k = next_taken _ _ _ (sym c.in-Ok.ensures) in
    (k.noise, k.learn, k.long)

pub returns-in-Ok : goal.returns-in-Ok
unfolding next_answer next_slice
returns-in-Ok c =
    let g = c.renewed.ensures in
    rw (g.0, ← c.in-Ok.ensures) (refl, g.1)

pub returns-in-Err : goal.returns-in-Err
unfolding next_answer next_slice
returns-in-Err c = rw (← c.in-Err.ensures) (refl, refl)
