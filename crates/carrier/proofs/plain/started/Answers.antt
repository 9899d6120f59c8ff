-- `carrier::plain::started` meets its contract. Assumes nothing.
use mir.Facts.{to_z-of_z}
use Rattle.carrier.specs.Carrier.{started_nco}
use Rattle.carrier.proofs.plain.started.Goals as goal

pub returns : goal.returns
unfolding started_nco
returns c = rw (to_z-of_z c.ranges.freq)
