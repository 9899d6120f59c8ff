use Prim.Native.Nat.{◌≤◌}
use Rattle.demap.specs.Folds.{entry}
use Rattle.demap.proofs.Stage.{Stage}
use Rattle.demap.proofs.levels.all_levels.Given as goal

abbrev pub invariant-loop-b : goal.invariant-loop-b
invariant-loop-b l = (l.b ≤ 5) × Stage (entry l.initial.m) l.bits l.k l.initial.out l.b l.m l.out
