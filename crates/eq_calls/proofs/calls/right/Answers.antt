-- `eq_calls::calls::right` meets its contract. Assumes nothing.
use Rattle.eq.specs.Eq.{with_sums}
use Rattle.eq_calls.specs.Calls.{right_call}
use Rattle.eq_calls.specs.Given.{right_put}
use Rattle.eq_calls.proofs.calls.right.Goals as goal

pub returns : goal.returns
unfolding right_call right_put with_sums
returns c = rw (c.plain.ensures, c.parts.ensures)
