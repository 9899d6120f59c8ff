-- `sync_heads::frames::next_slot` meets its contract: one case of the slot at each return. Assumes nothing.
use Rattle.laws.specs.Choice.{cases}
use Rattle.sync_heads.specs.Frames.{next_slot}
use Rattle.std.proofs.Common.{arith}
use Rattle.sync_heads.proofs.frames.next_slot.Goals as goal

pub overflow_add-result : goal.overflow_add-result
overflow_add-result c = let h = rw c.in-Some.is at c.requires in omega (arith, h)

pub returns-in-None : goal.returns-in-None
unfolding next_slot
returns-in-None c = search cases

pub returns-in-Some : goal.returns-in-Some
unfolding next_slot
returns-in-Some c = rw c.in-Some.is
