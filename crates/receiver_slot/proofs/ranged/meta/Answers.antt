-- `receiver_slot::ranged::meta` meets its contract. Assumes nothing.
use mathlib.Core.Path.{refl}
use Rattle.receiver_slot.specs.Steps.{meta_at}
use Rattle.receiver_slot.proofs.ranged.meta.Goals as goal

pub returns : goal.returns
unfolding meta_at
returns c = refl
