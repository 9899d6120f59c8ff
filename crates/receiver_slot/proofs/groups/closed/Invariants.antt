use Prim.Native.Nat.{◌-◌, ◌≤◌}
use lib.ListN.{drop, length}
use lib.Seq.{paste}
use mathlib.Core.Path.{◌≡◌}
use Rattle.receiver_slot.proofs.groups.closed.Given as goal

abbrev pub invariant-loop-k : goal.invariant-loop-k
invariant-loop-k l = (l.k ≤ 22) × (l.line ≡ paste l.initial.line 0 (drop l.e l.l) l.k) × (length l.line ≡ 22)

abbrev pub decreases-loop-k : goal.decreases-loop-k
decreases-loop-k l = 22 - l.k
