-- `phase_replay::told::held` meets its contract. Assumes nothing.
use Rattle.phase_replay.specs.Told.{held_told}
use Rattle.phase_replay.proofs.told.held.Goals as goal

pub returns-in-Ok : goal.returns-in-Ok
unfolding held_told
returns-in-Ok c = rw (c.in-Ok.is, c.phase.ensures)

pub returns-in-Err : goal.returns-in-Err
unfolding held_told
returns-in-Err c = rw (c.in-Err.is, c.phase-in-Err.ensures, c.number.ensures)
