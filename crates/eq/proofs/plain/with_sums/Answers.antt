use Rattle.eq.specs.Eq.{with_sums}
use mathlib.Core.Path.{refl}
use Rattle.eq.proofs.plain.with_sums.Goals as goal

pub returns : goal.returns
unfolding with_sums
returns c = refl
