-- `receiver_feed::turns::told` meets its contract. Assumes nothing.
use Rattle.receiver_feed.specs.Turns.{told_by}
use Rattle.receiver_feed.proofs.turns.told.Goals as goal

pub returns-in-Ok : goal.returns-in-Ok
unfolding told_by
returns-in-Ok c = rw (c.in-Ok.is, c.goes.ensures)

pub returns-in-Err : goal.returns-in-Err
unfolding told_by
returns-in-Err c = rw (c.stopped.ensures, c.in-Err.is)
