-- `sync_replay::desk::begun` meets its contract: the desk in either case. Assumes nothing.
use Rattle.sync_replay.proofs.desk.begun.Goals as goal

pub returns-in-Ok : goal.returns-in-Ok
returns-in-Ok c = rw (c.in-Ok.is, c.after.ensures, c.refused.ensures)

pub returns-in-Err : goal.returns-in-Err
returns-in-Err c = rw (c.in-Err.is, c.after-in-Err.ensures, c.refused-in-Err.ensures, c.number.ensures)
