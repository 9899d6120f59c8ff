-- `eq_calls::calls::open` meets its contract. Assumes nothing.
use Rattle.eq_calls.specs.Calls.{open_call}
use Rattle.eq_calls.proofs.calls.open.Goals as goal

pub returns : goal.returns
unfolding open_call
returns c = rw (c.answer.ensures, c.open.ensures, c.of_bits.ensures)
