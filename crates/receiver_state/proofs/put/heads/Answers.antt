-- `receiver_state::put::heads` meets its contract. Assumes nothing.
use Rattle.receiver_state.specs.Put.{heads_put_in}
use Rattle.receiver_state.proofs.put.heads.Goals as goal

pub returns : goal.returns
unfolding heads_put_in
returns c = rw (c.run.ensures, c.heads_put.ensures)
