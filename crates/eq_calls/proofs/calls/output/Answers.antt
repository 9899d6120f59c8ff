-- `eq_calls::calls::output` meets its contract. Assumes nothing.
use Rattle.eq_calls.specs.Calls.{output_call}
use Rattle.eq_calls.proofs.calls.output.Goals as goal

pub returns : goal.returns
unfolding output_call
returns c = rw (c.symbol.ensures, c.output.ensures)
