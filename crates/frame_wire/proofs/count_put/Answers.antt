-- `frame_wire::count_put` meets its contract. Assumes nothing.
use Rattle.frame_wire.specs.Line.{count_put}
use Rattle.frame_wire.proofs.count_put.Goals as goal

pub returns : goal.returns
unfolding count_put
returns c = rw c.of_bits.ensures
