-- `receiver_state::put::run` meets its contract. Assumes nothing.
use Rattle.receiver_state.specs.Put.{run_put_in}
use Rattle.receiver_state.proofs.put.run.Goals as goal

pub returns : goal.returns
unfolding run_put_in
returns c = rw (c.run.ensures, c.run_put.ensures)
