-- `c_api::arrays::sv_correlate` meets its contract. Assumes nothing.
use mathlib.Core.Path.{ap, ◌∙◌}
use Rattle.c_api.specs.Arrays.{correlated}
use Rattle.c_api.proofs.arrays.sv_correlate.Goals as goal

pub returns : goal.returns
returns c = c.of_two.ensures ∙ ap correlated c.correlate.ensures
