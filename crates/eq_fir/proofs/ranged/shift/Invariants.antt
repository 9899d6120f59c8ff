use Prim.Native.Nat.{◌-◌, ◌≤◌}
use lib.ListN.{drop, take}
use mathlib.Core.List.{◌++◌}
use mathlib.Core.Path.{◌≡◌}
use Rattle.eq_fir.proofs.ranged.shift.Given as goal

abbrev pub invariant-loop-k : goal.invariant-loop-k
invariant-loop-k l = (2 ≤ l.k) × (l.k ≤ 22) × (l.line ≡ take l.k l.initial.line ++ drop (l.k - 2) (take 20 l.initial.line))
