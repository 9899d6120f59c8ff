-- `sync_heads::frames::gap` meets its contract: omega reads the bounds. Assumes nothing.
use Rattle.std.proofs.Common.{arith}
use Rattle.sync_heads.specs.Frames.{gap_of}
use Rattle.sync_heads.proofs.frames.gap.Goals as goal

pub returns : goal.returns
unfolding gap_of
returns c = omega arith
