-- `phase_replay::given::beside` meets its contract. Assumes nothing.
use Rattle.phase_replay.specs.Given.{beside}
use mir.Facts.{to_z-of_z}
use Rattle.phase_replay.proofs.given.beside.Goals as goal

pub returns : goal.returns
unfolding beside
returns c = rw (to_z-of_z c.ranges.amp)
