-- `sync_heads::frames::marks` meets its contract: one test at each return. Assumes nothing.
use Rattle.laws.specs.Choice.{cases}
use Rattle.sync_heads.specs.Frames.{marks_of}
use Rattle.std.proofs.Common.{to_z-of_z}
use Rattle.sync_heads.proofs.frames.marks.Goals as goal

pub returns-then-positive : goal.returns-then-positive
unfolding marks_of
returns-then-positive c = rw (to_z-of_z c.ranges.majority) (search cases)

pub returns-else-positive : goal.returns-else-positive
unfolding marks_of
returns-else-positive c = rw (to_z-of_z c.ranges.majority) (search cases)
