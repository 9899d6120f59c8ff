-- `receiver_calls::told::period` meets its contract. Assumes nothing.
use Rattle.receiver_calls.specs.Told.{period_told}
use Rattle.receiver_calls.proofs.told.period.Goals as goal

pub returns : goal.returns
unfolding period_told
returns c = rw (c.flag.ensures, c.is_some.ensures, c.unwrap_or.ensures, c.flag-2.ensures)
