-- `eq_calls::calls::upper` meets its contract. Assumes nothing.
use Rattle.eq.specs.Eq.{with_sums}
use Rattle.eq_calls.specs.Calls.{upper_call}
use Rattle.eq_calls.specs.Given.{upper_put}
use Rattle.eq_calls.proofs.calls.upper.Goals as goal

pub returns : goal.returns
unfolding upper_call upper_put with_sums
returns c = rw (c.plain.ensures, c.upper_of-r.ensures, c.parts.ensures)
