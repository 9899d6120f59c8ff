-- The ranges of docs/RANGES.md, "Slot sync", for the figures and the lock.
use Rattle.std.specs.Prelude.{◌<◌, Bool, ◌&&◌, leb}
use Rattle.sync_lock.specs.declared.Tally.{Tally}
use Rattle.sync_lock.specs.declared.Lock.{Lock}
use Rattle.sync_lock.specs.declared.Lock.TheVariants.{Search, Locked}

-- a peak from any lent accumulator, and 9,296 of them
unfoldable pub tally_in_range : Tally → Bool
tally_in_range t = leb t.peak 3758292991 && leb t.place 9295 && leb t.sum 34937091644336

unfoldable pub lock_in_range : Lock → Bool
lock_in_range (Search cand count) = leb cand 9295 && leb count 3
lock_in_range (Locked offset misses) = leb offset 9295 && leb misses 7

-- what the rule needs
abbrev pub Lockable : Lock → Type 0
Lockable (Search cand count) = count < 4
Lockable (Locked offset misses) = misses < 8
