-- `receiver_state::told::window` meets its contract. Assumes nothing.
use Rattle.receiver_state.specs.Told.{window_told}
use Rattle.receiver_state.proofs.told.window.Goals as goal

pub returns : goal.returns
unfolding window_told
returns c = rw (c.four.ensures, c.of.ensures)
