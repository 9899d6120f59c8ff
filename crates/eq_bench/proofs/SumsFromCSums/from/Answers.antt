-- The conversion meets its contract. Assumes nothing.
use mathlib.Core.Path.{refl}
use Rattle.eq_bench.specs.Blocks.{sums_of}
use Rattle.eq_bench.proofs.SumsFromCSums.from.Goals as goal

pub returns : goal.returns
unfolding sums_of
returns c = refl
