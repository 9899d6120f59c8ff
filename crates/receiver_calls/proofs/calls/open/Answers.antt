-- `receiver_calls::calls::open` meets its contract. Assumes nothing.
use Rattle.receiver_calls.specs.Calls.{open_call}
use Rattle.receiver_calls.proofs.calls.open.Goals as goal

pub returns : goal.returns
unfolding open_call
returns c = rw (c.answered.ensures, c.open_sums.ensures, c.of_bits.ensures)
