-- `eq_calls::calls::keep` meets its contract. Assumes nothing.
use Rattle.eq_calls.specs.Calls.{keep_call}
use Rattle.eq_calls.proofs.calls.keep.Goals as goal

pub returns : goal.returns
unfolding keep_call
returns c = rw c.plain.ensures
