-- `receiver_slot::ranged::full` meets its contract. Assumes nothing.
use native.Mathlib.Omega.{arith}
use Rattle.laws.specs.Choice.{cases}
use Rattle.receiver_slot.specs.Full.{full_at}
use Rattle.receiver_slot.proofs.ranged.full.Goals as goal

pub overflow_add-result : goal.overflow_add-result
overflow_add-result c =
    let k = (c.requires.sums c.if-opened.true).count in
    record { fits = omega (arith, k, c.trainings.ensures.1) }

pub returns-then-gap : goal.returns-then-gap
unfolding full_at
returns-then-gap c = rw (← c.gap.ensures) (search cases)

pub returns-else-gap : goal.returns-else-gap
unfolding full_at
returns-else-gap c = rw (← c.gap.ensures, ← c.trainings.ensures.0) (search cases)

pub returns-else-opened : goal.returns-else-opened
unfolding full_at
returns-else-opened c = search cases
