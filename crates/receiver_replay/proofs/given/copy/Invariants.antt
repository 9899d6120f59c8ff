use Prim.Native.Nat.{◌+◌, ◌-◌, ◌≤◌}
use Rattle.laws.specs.Ranges.{firsts}
use lib.ListN.{drop, length}
use mathlib.Core.List.{◌++◌}
use mathlib.Core.Path.{◌≡◌}
use Rattle.fields.specs.Fields.{one_at}
use Rattle.receiver_replay.proofs.given.copy.Given as goal

abbrev pub invariant-loop-k : goal.invariant-loop-k
invariant-loop-k l = (l.k ≤ l.n) × (l.from + l.n ≤ 192) × (l.n ≤ length l.initial.to) × (length l.to ≡ length l.initial.to) × (l.to ≡ firsts (one_at l.bytes l.from) l.k ++ drop l.k l.initial.to)

abbrev pub decreases-loop-k : goal.decreases-loop-k
decreases-loop-k l = l.n - l.k
