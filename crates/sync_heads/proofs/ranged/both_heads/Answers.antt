-- `sync_heads::ranged::both_heads` meets its contract: what the calls gave. Assumes nothing.
use Rattle.sync_heads.proofs.Laws.{ssync_ready}
use Rattle.sync_heads.specs.Heads.{both_heads}
use Rattle.sync_heads.proofs.ranged.both_heads.Goals as goal

pub ssync_head-a-requires : goal.ssync_head-a-requires
ssync_head-a-requires c = (c.requires.0, c.requires.1)

pub fsync_taken-t-requires : goal.fsync_taken-t-requires
fsync_taken-t-requires c =
    (c.requires.0.small.s, rw c.ssync_head-a.ensures (ssync_ready c.args.c c.args.z c.requires.1), c.requires.2)

pub returns : goal.returns
unfolding both_heads
returns c = rw (c.fsync_taken-t.ensures, c.ssync_head-a.ensures)
