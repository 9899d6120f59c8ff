-- `receiver_state::told::points` meets its contract. Assumes nothing.
use Rattle.receiver_state.specs.Told.{points_told}
use Rattle.receiver_state.proofs.told.points.Goals as goal

pub returns : goal.returns
unfolding points_told
returns c = rw (c.four.ensures, c.of.ensures)
