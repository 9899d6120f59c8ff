-- `carrier::new` meets its contract. Assumes nothing.
use mir.Facts.{to_z-of_z}
use Rattle.carrier.proofs.new.Goals as goal

pub returns : goal.returns
returns c = rw (to_z-of_z c.ranges.freq) at c.started.ensures
