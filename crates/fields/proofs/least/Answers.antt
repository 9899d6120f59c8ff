-- `fields::least` meets its contract. Assumes nothing.
use native.Mathlib.Omega.{arith}
use Rattle.fields.proofs.Laws.{min_least}
use Rattle.fields.proofs.least.Goals as goal

pub returns : goal.returns
returns c = (rw c.min.ensures (min_least _ _), omega (arith, c.min.ensures))
