-- `receiver::loads::with_points` meets its contract. Assumes nothing.
use Rattle.receiver.specs.Answers.{with_points}
use mathlib.Core.Path.{refl}
use Rattle.receiver.proofs.loads.with_points.Goals as goal

pub returns : goal.returns
unfolding with_points
returns c = refl
