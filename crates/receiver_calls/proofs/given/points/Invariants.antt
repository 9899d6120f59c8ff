use Prim.Native.Nat.{◌-◌, ◌≤◌}
use Rattle.laws.specs.Ranges.{firsts}
use Rattle.receiver_calls.specs.Given.{point_at}
use lib.ListN.{drop}
use mathlib.Core.List.{◌++◌}
use mathlib.Core.Path.{◌≡◌}
use Rattle.receiver_calls.proofs.given.points.Given as goal

abbrev pub invariant-loop-k : goal.invariant-loop-k
invariant-loop-k l = (l.k ≤ 80) × (l.t ≡ firsts (point_at l.bytes) l.k ++ drop l.k l.initial.t)

abbrev pub decreases-loop-k : goal.decreases-loop-k
decreases-loop-k l = 80 - l.k
