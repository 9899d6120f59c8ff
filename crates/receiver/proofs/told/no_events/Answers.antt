-- `receiver::told::no_events` meets its contract. Assumes nothing.
use Rattle.sync_step.specs.Events.{no_events}
use mathlib.Core.Path.{refl}
use Rattle.receiver.proofs.told.no_events.Goals as goal

pub returns : goal.returns
unfolding no_events
returns c = refl
