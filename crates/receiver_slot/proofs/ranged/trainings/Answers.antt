-- `receiver_slot::ranged::trainings` meets its contract. Assumes nothing.
use native.Mathlib.Omega.{arith}
use Rattle.laws.specs.Choice.{cases}
use Rattle.receiver_slot.specs.Full.{trainings_on}
use Rattle.receiver_slot.proofs.ranged.trainings.Goals as goal

pub returns-then-filled-eq11 : goal.returns-then-filled-eq11
unfolding trainings_on
returns-then-filled-eq11 c = (search cases, omega arith)

pub returns-else-filled-eq11 : goal.returns-else-filled-eq11
unfolding trainings_on
returns-else-filled-eq11 c = (search cases, omega arith)
