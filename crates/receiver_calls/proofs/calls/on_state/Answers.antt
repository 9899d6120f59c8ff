-- `receiver_calls::calls::on_state` meets its contract. Assumes nothing.
use Rattle.receiver_calls.specs.Calls.{state_call}
use Rattle.receiver_calls.proofs.calls.on_state.Goals as goal

pub returns : goal.returns
unfolding state_call
returns c = rw (c.turned.ensures, c.with_receiver.ensures, c.turn-t.ensures)
