-- `receiver::told::no_runs` meets its contract. Assumes nothing.
use Rattle.receiver.specs.Answers.{no_runs}
use Rattle.receiver_slot.specs.Slot.{no_run}
use mathlib.Core.Path.{refl}
use Rattle.receiver.proofs.told.no_runs.Goals as goal

pub returns : goal.returns
unfolding no_runs no_run
returns c = refl
