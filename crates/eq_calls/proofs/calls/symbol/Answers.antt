-- `eq_calls::calls::symbol` meets its contract. Assumes nothing.
use Rattle.eq_calls.specs.Calls.{symbol_call}
use Rattle.eq_calls.proofs.calls.symbol.Goals as goal

pub returns-in-Ok : goal.returns-in-Ok
unfolding symbol_call
returns-in-Ok c = rw (c.in-Ok.is, c.symbol_told.ensures)

pub returns-in-Err : goal.returns-in-Err
unfolding symbol_call
returns-in-Err c = rw (c.in-Err.is, c.plain.ensures, c.number.ensures)
