use Prim.Native.Nat.{◌-◌, ◌≤◌}
use lib.IntN.{pos}
use lib.ListN.{length, replicate}
use lib.Seq.{paste}
use mathlib.Core.Path.{◌≡◌}
use Rattle.receiver_slot.proofs.groups.opened.Given as goal

abbrev pub invariant-loop-k : goal.invariant-loop-k
invariant-loop-k l = (l.k ≤ 22) × (l.l ≡ paste (replicate 304 (pos 0)) 280 l.line l.k) × (length l.l ≡ 304)

abbrev pub decreases-loop-k : goal.decreases-loop-k
decreases-loop-k l = 22 - l.k
