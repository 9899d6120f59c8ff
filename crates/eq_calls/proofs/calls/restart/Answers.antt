-- `eq_calls::calls::restart` meets its contract. Assumes nothing.
use Rattle.eq_calls.specs.Calls.{restart_call}
use Rattle.eq_calls.proofs.calls.restart.Goals as goal

pub returns : goal.returns
unfolding restart_call
returns c = rw (c.answer.ensures, c.restart.ensures)
