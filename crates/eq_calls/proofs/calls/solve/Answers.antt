-- `eq_calls::calls::solve` meets its contract. Assumes nothing.
use Rattle.eq_calls.specs.Calls.{solve_call}
use Rattle.eq_calls.proofs.calls.solve.Goals as goal

pub returns : goal.returns
unfolding solve_call
returns c = rw (c.solved.ensures, c.solve_sums.ensures)
