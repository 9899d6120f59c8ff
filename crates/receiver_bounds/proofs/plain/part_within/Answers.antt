-- `receiver_bounds::plain::part_within` meets its contract. Assumes nothing.
use Rattle.laws.proofs.Size.{within_abs}
use mir.Facts.{to_z-of_z}
use mir.Syntax.{w32}
use Rattle.receiver_bounds.proofs.plain.part_within.Goals as goal

pub returns : goal.returns
returns c = rw (to_z-of_z {w = w32} c.ranges.v) (within_abs c.args.v 98327)
