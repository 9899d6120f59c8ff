-- `receiver_state::put::window` meets its contract. Assumes nothing.
use Rattle.receiver_state.specs.Put.{window_put}
use Rattle.receiver_state.proofs.put.window.Goals as goal

pub returns : goal.returns
unfolding window_put
returns c = rw (c.window.ensures, c.window_at.ensures, c.packed.ensures)
