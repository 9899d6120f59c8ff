-- `eq_calls::same` meets its contract. Assumes nothing.
use Rattle.eq_calls.specs.Turns.{same}
use Rattle.eq_calls.proofs.same.Goals as goal

pub returns : goal.returns
unfolding same
returns c = rw c.told.ensures
