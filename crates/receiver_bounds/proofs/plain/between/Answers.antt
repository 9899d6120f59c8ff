-- `receiver_bounds::plain::between` meets its contract. Assumes nothing.
use Rattle.receiver_bounds.specs.Bounds.{within}
use mathlib.Core.Path.{refl}
use Rattle.receiver_bounds.proofs.plain.between.Goals as goal

pub returns : goal.returns
unfolding within
returns c = refl
