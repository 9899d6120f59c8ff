-- `eq_calls::calls::closed` meets its contract. Assumes nothing.
use Rattle.eq_calls.specs.Calls.{closed_call}
use Rattle.eq_calls.proofs.calls.closed.Goals as goal

pub returns-in-Ok : goal.returns-in-Ok
unfolding closed_call
returns-in-Ok c = rw (c.in-Ok.is, c.told.ensures, c.flag.ensures, c.is_some.ensures, c.unwrap_or.ensures, c.new.ensures)

pub returns-in-Err : goal.returns-in-Err
unfolding closed_call
returns-in-Err c = rw (c.in-Err.is, c.told-in-Err.ensures, c.new-in-Err.ensures, c.number.ensures)
