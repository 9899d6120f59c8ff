-- `sync_heads::plain::part_in_range` meets its contract: both ends are one test of the size. Assumes nothing.
use Rattle.laws.proofs.Size.{within_abs}
use Rattle.std.proofs.Common.{to_z-of_z}
use Rattle.sync_heads.proofs.plain.part_in_range.Goals as goal

pub returns : goal.returns
returns c = rw (to_z-of_z c.ranges.v) (within_abs c.args.v 1572863)
