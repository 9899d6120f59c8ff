-- `receiver_bounds::plain::points_within` meets its contract. Assumes nothing.
use Rattle.receiver_bounds.specs.Bounds.{points_within}
use mathlib.Core.Path.{refl}
use Rattle.receiver_bounds.proofs.plain.points_within.Goals as goal

pub returns : goal.returns
unfolding points_within
returns c = refl
