use Prim.Native.Nat.{◌+◌, ◌-◌, ◌≤◌}
use Rattle.laws.specs.Ranges.{firsts}
use lib.IntN.{pos}
use lib.ListN.{drop, get_or}
use mathlib.Core.List.{◌++◌}
use mathlib.Core.Path.{◌≡◌}
use Rattle.sync.proofs.ranged.shift.Given as goal

abbrev pub invariant-loop-k : goal.invariant-loop-k
invariant-loop-k l = (l.k ≤ 46) × (l.win ≡ firsts (λ j. get_or l.initial.win (2 + j) (pos 0)) l.k ++ drop l.k l.initial.win)
