-- `c_api::arrays::sv_solve` meets its contract. Assumes nothing.
use Rattle.c_api.specs.Arrays.{unknowns}
use Rattle.solve_step.specs.Back.{none_yet}
use Rattle.c_api.proofs.arrays.sv_solve.Goals as goal

pub returns-in-Ok : goal.returns-in-Ok
unfolding unknowns
returns-in-Ok c = rw (← c.solve.ensures, c.in-Ok.is)

pub returns-in-Err : goal.returns-in-Err
unfolding unknowns none_yet
returns-in-Err c = rw (c.number.ensures, ← c.solve.ensures, c.in-Err.is)
