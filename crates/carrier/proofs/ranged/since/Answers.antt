-- `carrier::ranged::since` meets its contract. Assumes nothing.
use mathlib.Core.Path.{refl}
use Rattle.carrier.specs.Carrier.{since_head}
use Rattle.carrier.proofs.ranged.since.Goals as goal

pub returns : goal.returns
unfolding since_head
returns c = refl
