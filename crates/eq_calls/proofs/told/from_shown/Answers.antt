-- `eq_calls::told::from_shown` meets its contract. Assumes nothing.
use Rattle.eq_calls.specs.Told.{from_shown}
use Rattle.eq_calls.proofs.told.from_shown.Goals as goal

pub returns-in-None : goal.returns-in-None
unfolding from_shown
returns-in-None c = rw c.in-None.is

pub returns-in-Some : goal.returns-in-Some
unfolding from_shown
returns-in-Some c = rw c.in-Some.is
