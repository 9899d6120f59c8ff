-- `receiver_calls::calls::event` meets its contract. Assumes nothing.
use Rattle.receiver_calls.specs.Calls.{event_call}
use Rattle.receiver_calls.proofs.calls.event.Goals as goal

pub returns : goal.returns
unfolding event_call
returns c = rw (c.turned.ensures, c.event.ensures, c.event_at.ensures)
