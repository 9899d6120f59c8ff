-- `eq_calls::calls::close` meets its contract. Assumes nothing.
use Rattle.eq_calls.specs.Calls.{close_call}
use Rattle.eq_calls.proofs.calls.close.Goals as goal

pub returns : goal.returns
unfolding close_call
returns c = rw (c.closed.ensures, c.close.ensures)
