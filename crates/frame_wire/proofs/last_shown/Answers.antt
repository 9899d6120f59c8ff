-- `frame_wire::last_shown` meets its contract. Assumes nothing.
use Rattle.frame_wire.specs.Line.{last_shown}
use Rattle.frame_wire.proofs.last_shown.Goals as goal

pub returns-in-None : goal.returns-in-None
unfolding last_shown
returns-in-None c = rw c.in-None.is

pub returns-in-Some : goal.returns-in-Some
unfolding last_shown
returns-in-Some c = rw c.in-Some.is
