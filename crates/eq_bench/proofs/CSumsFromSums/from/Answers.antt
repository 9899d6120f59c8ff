-- The conversion meets its contract. Assumes nothing.
use mathlib.Core.Path.{refl}
use Rattle.eq_bench.specs.Blocks.{across_c}
use Rattle.eq_bench.proofs.CSumsFromSums.from.Goals as goal

pub returns : goal.returns
unfolding across_c
returns c = refl
