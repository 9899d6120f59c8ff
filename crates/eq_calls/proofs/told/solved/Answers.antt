-- `eq_calls::told::solved` meets its contract. Assumes nothing.
use Rattle.eq_calls.specs.Told.{solved_told}
use Rattle.eq_calls.proofs.told.solved.Goals as goal

pub returns-in-Ok : goal.returns-in-Ok
unfolding solved_told
returns-in-Ok c = rw (c.in-Ok.is, c.taps_told.ensures)

pub returns-in-Err : goal.returns-in-Err
unfolding solved_told
returns-in-Err c = rw (c.in-Err.is, c.four.ensures, c.number.ensures)
