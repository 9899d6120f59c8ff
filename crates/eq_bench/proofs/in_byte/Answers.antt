-- `eq_bench::in_byte` meets its contract. Assumes nothing.
use mir.Facts.{to_z-of_z}
use Rattle.laws.proofs.Size.{within_abs}
use Rattle.eq_bench.specs.Blocks.{in_byte}
use Rattle.eq_bench.proofs.in_byte.Goals as goal

pub returns : goal.returns
unfolding in_byte
returns c = rw (to_z-of_z c.ranges.v) (within_abs c.args.v 254)
