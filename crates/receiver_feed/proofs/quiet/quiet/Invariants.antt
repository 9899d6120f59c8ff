use Prim.Native.Nat.{ℕ, ◌-◌, ◌≤◌, ◌<◌}
use mathlib.Core.Bool.{true}
use mathlib.Core.Path.{◌≡◌}
use lib.ListN.{length}
use Rattle.laws.specs.Choice.{when◌then◌else◌}
use Rattle.receiver_bounds.specs.Bounds.{all_within, tally_within}
use Rattle.receiver_feed.specs.Quiet.{Fits, moves, moving}
use Rattle.receiver_feed.proofs.quiet.quiet.Given as goal

abbrev pub invariant-loop-k : goal.invariant-loop-k
invariant-loop-k l = (l.k ≤ l.n) × (l.end ≤ l.n) × (l.end ≡ (when tally_within l.y then l.n else l.k))
    × (moving l.win l.y l.acc l.store l.a ≡ moves (record { bytes = l.bytes; table = l.table; rows = l.rows; freq = l.freq }) l.i l.p l.c l.k (moving l.initial.win l.initial.y l.initial.acc l.initial.store l.phase))
    × ((j : ℕ) → j < l.k → Fits (moves (record { bytes = l.bytes; table = l.table; rows = l.rows; freq = l.freq }) l.i l.p l.c j (moving l.initial.win l.initial.y l.initial.acc l.initial.store l.phase)))
    × (all_within 4096 l.win ≡ true) × (length l.win ≡ 48) × (length l.acc ≡ 9296) × (length l.store ≡ 18592)

abbrev pub decreases-loop-k : goal.decreases-loop-k
decreases-loop-k l = l.n - l.k
