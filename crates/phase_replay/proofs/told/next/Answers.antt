-- `phase_replay::told::next` meets its contract. Assumes nothing.
use Rattle.phase_replay.specs.Told.{next_told}
use Rattle.phase_replay.proofs.told.next.Goals as goal

pub returns-in-Err : goal.returns-in-Err
unfolding next_told
returns-in-Err c = rw (c.in-Err.is, c.four.ensures, c.number.ensures)

pub returns-in-None : goal.returns-in-None
unfolding next_told
returns-in-None c = rw (c.in-Ok.is, c.in-None.is, c.four-in-None.ensures)

pub returns-in-Some : goal.returns-in-Some
unfolding next_told
returns-in-Some c = rw (c.in-Ok.is, c.in-Some.is, c.head.ensures)
