-- `receiver_calls::plain` meets its contract. Assumes nothing.
use Rattle.receiver_calls.specs.Calls.{plain}
use Rattle.receiver_calls.proofs.plain.Goals as goal

pub returns : goal.returns
unfolding plain
returns c = rw (c.turned.ensures, c.four.ensures)
