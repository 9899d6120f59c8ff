use Rattle.sync_block.specs.Reach.{reach_of}
use native.Mathlib.Omega.{arith}
use Rattle.sync_block.proofs.reach.reach.Goals as goal

pub returns-then-n-left : goal.returns-then-n-left
unfolding reach_of
returns-then-n-left c = let u = c.until-n.ensures in (rw (← u.0) (omega arith), u.1)

pub returns-else-n-left : goal.returns-else-n-left
unfolding reach_of
returns-else-n-left c = let u = c.until-n.ensures in (rw (← u.0) (omega arith), omega arith)
