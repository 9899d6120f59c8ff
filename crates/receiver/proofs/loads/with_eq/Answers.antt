-- `receiver::loads::with_eq` meets its contract. Assumes nothing.
use Rattle.receiver.specs.Answers.{with_eq}
use mathlib.Core.Path.{refl}
use Rattle.receiver.proofs.loads.with_eq.Goals as goal

pub returns : goal.returns
unfolding with_eq
returns c = refl
