-- `receiver_state::put::phase` meets its contract. Assumes nothing.
use Rattle.receiver_state.specs.Put.{phase_put}
use Rattle.receiver_state.proofs.put.phase.Goals as goal

pub returns : goal.returns
unfolding phase_put
returns c = rw (c.phase.ensures, c.phase_at.ensures)
