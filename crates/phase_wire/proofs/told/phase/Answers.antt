-- `phase_wire::told::phase` meets its contract. Assumes nothing.
use Rattle.phase_wire.specs.Told.{phase_told}
use Rattle.phase_wire.proofs.told.phase.Goals as goal

pub returns-in-None : goal.returns-in-None
unfolding phase_told
returns-in-None c = rw (c.in-None.is, c.four.ensures)

pub returns-in-Some : goal.returns-in-Some
unfolding phase_told
returns-in-Some c = rw (c.in-Some.is, c.head.ensures)
