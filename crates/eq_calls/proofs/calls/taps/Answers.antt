-- `eq_calls::calls::taps` meets its contract. Assumes nothing.
use Rattle.eq_calls.specs.Calls.{taps_call}
use Rattle.eq_calls.specs.Given.{taps_put}
use Rattle.eq_calls.proofs.calls.taps.Goals as goal

pub returns : goal.returns
unfolding taps_call taps_put
returns c = rw (c.plain.ensures, c.parts-taps.ensures)
