-- `eq_calls::calls::plain` meets its contract. Assumes nothing.
use Rattle.eq_calls.specs.Calls.{plain}
use Rattle.eq_calls.proofs.calls.plain.Goals as goal

pub returns : goal.returns
unfolding plain
returns c = rw c.told.ensures
