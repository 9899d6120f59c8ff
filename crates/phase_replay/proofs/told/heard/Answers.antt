-- `phase_replay::told::heard` meets its contract. Assumes nothing.
use Rattle.phase_replay.specs.Told.{heard_told}
use Rattle.phase_replay.proofs.told.heard.Goals as goal

pub returns-in-Ok : goal.returns-in-Ok
unfolding heard_told
returns-in-Ok c = rw (c.in-Ok.is, c.nco.ensures, c.flag.ensures)

pub returns-in-Err : goal.returns-in-Err
unfolding heard_told
returns-in-Err c = rw (c.in-Err.is, c.nco-in-Err.ensures, c.number.ensures)
