-- `phase_replay::told::answered` meets its contract. Assumes nothing.
use Rattle.phase_replay.specs.Told.{answered_told}
use Rattle.phase_replay.proofs.told.answered.Goals as goal

pub returns-in-Ok : goal.returns-in-Ok
unfolding answered_told
returns-in-Ok c = rw (c.in-Ok.is, c.corrected.ensures)

pub returns-in-Err : goal.returns-in-Err
unfolding answered_told
returns-in-Err c = rw (c.in-Err.is, c.four.ensures, c.number.ensures)
