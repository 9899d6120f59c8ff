-- `sync_heads::ranged::known` meets its contract: one case at each return. Assumes nothing.
use Rattle.laws.specs.Choice.{cases}
use Rattle.sync_heads.specs.Heads.{known_of}
use Rattle.sync_heads.proofs.ranged.known.Goals as goal

pub ssync_taken-requires : goal.ssync_taken-requires
ssync_taken-requires c = (c.requires.1, c.requires.2)

pub fsync_taken-requires : goal.fsync_taken-requires
fsync_taken-requires c = (c.requires.0.last, c.requires.1, c.requires.2)

pub returns-then-p : goal.returns-then-p
unfolding known_of
returns-then-p c = rw c.ssync_taken.ensures (search cases)

pub returns-else-p : goal.returns-else-p
unfolding known_of
returns-else-p c = rw c.fsync_taken.ensures (search cases)
