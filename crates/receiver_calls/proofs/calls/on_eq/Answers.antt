-- `receiver_calls::calls::on_eq` meets its contract. Assumes nothing.
use Rattle.receiver.specs.Answers.{with_eq}
use Rattle.receiver_calls.specs.Calls.{eq_call}
use Rattle.receiver_calls.proofs.calls.on_eq.Goals as goal

pub returns : goal.returns
unfolding eq_call with_eq
returns c = rw (c.turned.ensures, c.with_receiver.ensures, c.turn-t.ensures)
