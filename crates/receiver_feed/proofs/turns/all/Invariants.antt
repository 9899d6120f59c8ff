use Prim.Native.Nat.{◌≤◌}
use mathlib.Core.Bool.{true}
use mathlib.Core.Path.{◌≡◌}
use lib.ListN.{length}
use Rattle.receiver.specs.Ranges.{receiver_in_range}
use Rattle.receiver_feed.specs.Turns.{Stands, goes_on, rest_by, stand_from}
use Rattle.receiver_feed.proofs.Stand.{left_by}
use Rattle.receiver_feed.proofs.turns.all.Given as goal

abbrev pub invariant-loop-t : goal.invariant-loop-t
invariant-loop-t l = (l.t.used ≤ l.n)
    × (rest_by (record { bytes = l.bytes; f = l.f; s = l.s; table = l.table }) l.n l.t (record { acc = l.acc; store = l.store; soft = l.soft }) ≡ stand_from (record { bytes = l.bytes; f = l.f; s = l.s; table = l.table }) l.n 0 l.initial.t.receiver (record { acc = l.initial.acc; store = l.initial.store; soft = l.initial.soft }))
    × (Stands (length l.acc) (length l.store) (length l.soft) l.f l.s (length l.table)) × (length l.acc ≡ length l.initial.acc) × (length l.store ≡ length l.initial.store) × (length l.soft ≡ length l.initial.soft)
    × (goes_on l.t ≡ true → l.t.used ≡ 0 → receiver_in_range l.t.receiver ≡ true)

abbrev pub decreases-loop-t : goal.decreases-loop-t
decreases-loop-t l = left_by l.n l.t
