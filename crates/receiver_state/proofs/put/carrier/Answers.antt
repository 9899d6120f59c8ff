-- `receiver_state::put::carrier` meets its contract. Assumes nothing.
use Rattle.receiver_state.specs.Put.{carrier_put}
use Rattle.receiver_state.proofs.put.carrier.Goals as goal

pub returns : goal.returns
unfolding carrier_put
returns c = rw (c.nco.ensures, c.nco_at.ensures)
