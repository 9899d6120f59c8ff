-- `phase_replay::told::restarted` meets its contract. Assumes nothing.
use Rattle.phase_replay.specs.Told.{restarted_told}
use Rattle.phase_replay.proofs.told.restarted.Goals as goal

pub returns-in-Ok : goal.returns-in-Ok
unfolding restarted_told
returns-in-Ok c = rw (c.in-Ok.is, c.nco.ensures)

pub returns-in-Err : goal.returns-in-Err
unfolding restarted_told
returns-in-Err c = rw (c.in-Err.is, c.nco-in-Err.ensures, c.number.ensures)
