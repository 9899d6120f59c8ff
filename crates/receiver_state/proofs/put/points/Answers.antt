-- `receiver_state::put::points` meets its contract. Assumes nothing.
use Rattle.receiver_state.specs.Put.{points_put}
use Rattle.receiver_state.proofs.put.points.Goals as goal

pub returns : goal.returns
unfolding points_put
returns c = rw (c.points.ensures, c.of_bits-2.ensures, c.of_bits.ensures, c.points_at.ensures, c.packed.ensures)
