-- `eq_calls::calls::numbers` meets its contract. Assumes nothing.
use Rattle.eq_calls.specs.Calls.{numbers_call}
use Rattle.eq_calls.proofs.calls.numbers.Goals as goal

pub returns : goal.returns
unfolding numbers_call
returns c = rw (c.plain.ensures, c.numbers_put.ensures)
