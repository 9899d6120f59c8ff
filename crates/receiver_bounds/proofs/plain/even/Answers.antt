-- `receiver_bounds::plain::even` meets its contract. Assumes nothing.
use mathlib.Core.Path.{refl}
use Rattle.receiver_bounds.specs.Bounds.{even}
use Rattle.receiver_bounds.proofs.plain.even.Goals as goal

pub returns : goal.returns
unfolding even
returns c = refl
