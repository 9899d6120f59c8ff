-- `eq_calls::told::sums_shown` meets its contract. Assumes nothing.
use Rattle.eq_calls.specs.Told.{sums_shown}
use Rattle.eq_calls.proofs.told.sums_shown.Goals as goal

pub returns : goal.returns
unfolding sums_shown
returns c = rw (c.of.ensures, c.of-2.ensures)
