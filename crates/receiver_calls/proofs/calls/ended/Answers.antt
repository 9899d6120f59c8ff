-- `receiver_calls::calls::ended` meets its contract. Assumes nothing.
use Rattle.receiver_calls.specs.Calls.{ended_turn}
use Rattle.receiver_calls.proofs.calls.ended.Goals as goal

pub returns-in-None : goal.returns-in-None
unfolding ended_turn
returns-in-None c = rw (c.turned.ensures, c.ended.ensures, c.with_receiver.ensures, c.new-none.ensures, c.in-None.is)

pub returns-in-Some : goal.returns-in-Some
unfolding ended_turn
returns-in-Some c = rw (c.turned-in-Some.ensures, c.ended-in-Some.ensures, c.with_receiver-in-Some.ensures, c.in-Some.is)
