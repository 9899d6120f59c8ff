-- `receiver_state::put::waiting` meets its contract. Assumes nothing.
use Rattle.receiver_state.specs.Put.{waiting_put}
use Rattle.receiver_state.proofs.put.waiting.Goals as goal

pub returns : goal.returns
unfolding waiting_put
returns c = rw (c.line.ensures, c.last_at.ensures, c.meta-v.ensures, c.count_put.ensures, c.meta_at-m.ensures)
