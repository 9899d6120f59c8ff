-- `receiver::starts::no_points` meets its contract. Assumes nothing.
use Rattle.receiver.specs.Started.{no_points}
use mathlib.Core.Path.{refl}
use Rattle.receiver.proofs.starts.no_points.Goals as goal

pub returns : goal.returns
unfolding no_points
returns c = refl
