-- `eq_calls::calls::line` meets its contract. Assumes nothing.
use Rattle.eq_calls.specs.Calls.{line_call}
use Rattle.eq_calls.specs.Given.{line_put}
use Rattle.eq_calls.proofs.calls.line.Goals as goal

pub returns : goal.returns
unfolding line_call line_put
returns c = rw (c.plain.ensures, c.parts-line.ensures)
