-- `eq_calls::calls::new` meets its contract. Assumes nothing.
use Rattle.eq_calls.specs.Calls.{new_call}
use Rattle.eq_calls.proofs.calls.new.Goals as goal

pub returns : goal.returns
unfolding new_call
returns c = rw (c.plain.ensures, c.new.ensures)
