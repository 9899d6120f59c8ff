-- `solve::system::system` meets its contract. Assumes nothing.
use Rattle.solve.specs.System.{sums_system}
use Rattle.solve.proofs.system.system.Goals as goal

pub returns : goal.returns
unfolding sums_system
returns c = rw (c.right_side.ensures, c.matrix.ensures)
