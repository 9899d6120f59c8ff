-- `frame_line::ranged::placed` meets its contract. Assumes nothing.
use Rattle.laws.specs.Choice.{cases}
use Rattle.frame_line.specs.Line.{placed_at}
use Rattle.frame_line.proofs.ranged.placed.Goals as goal

pub returns-then-n-k : goal.returns-then-n-k
unfolding placed_at
returns-then-n-k c = search cases

pub returns-else-n-k : goal.returns-else-n-k
unfolding placed_at
returns-else-n-k c = search cases
