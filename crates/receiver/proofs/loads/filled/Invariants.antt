use Prim.Native.Nat.{◌-◌, ◌≤◌}
use lib.IntN.{pos}
use lib.ListN.{length, replicate, take}
use mathlib.Core.List.{◌++◌}
use mathlib.Core.Path.{◌≡◌}
use Rattle.receiver.proofs.loads.filled.Given as goal

abbrev pub invariant-loop-k : goal.invariant-loop-k
invariant-loop-k l = (l.k ≤ length l.points) × (l.all ≡ take l.k l.points ++ replicate (64 - l.k) (pos 0))

abbrev pub decreases-loop-k : goal.decreases-loop-k
decreases-loop-k l = length l.points - l.k
