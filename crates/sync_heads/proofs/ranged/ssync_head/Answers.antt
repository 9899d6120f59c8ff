-- `sync_heads::ranged::ssync_head` meets its contract: what the calls gave. Assumes nothing.
use Rattle.laws.proofs.Size.{at, num}
use Rattle.sync_heads.proofs.Laws.{said_small}
use Rattle.sync_heads.specs.Heads.{ssync_of}
use Rattle.std.proofs.Common.{true, w32}
use Rattle.sync_heads.proofs.ranged.ssync_head.Goals as goal

pub next_slot-slot-requires : goal.next_slot-slot-requires
next_slot-slot-requires c = c.requires.1.slot

pub said-w-requires : goal.said-w-requires
said-w-requires c = (c.requires.0.small, c.requires.0.small.s)

pub head_of-requires : goal.head_of-requires
head_of-requires c = rw c.said-w.ensures (said_small true c.args.r.both c.args.r.both.s c.requires.0.small)

pub returns : goal.returns
unfolding ssync_of
returns c =
    rw (c.head_of.ensures, c.said-w.ensures, c.moved_on.ensures, c.next_slot-slot.ensures, (at w32 (num c.args.c.majority 8 c.requires.1.majority) tt).is)
