-- `sums::new` meets its contract. Assumes nothing.
use mathlib.Core.Path.{refl}
use Rattle.sums.specs.Sums.{empty_sums}
use Rattle.sums.proofs.new.Goals as goal

pub returns : goal.returns
unfolding empty_sums
returns c = refl
