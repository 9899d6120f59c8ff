-- `receiver_bounds::plain::tally_within` meets its contract. Assumes nothing.
use Rattle.receiver_bounds.specs.Bounds.{tally_within}
use mathlib.Core.Path.{refl}
use Rattle.receiver_bounds.proofs.plain.tally_within.Goals as goal

pub returns : goal.returns
unfolding tally_within
returns c = refl
