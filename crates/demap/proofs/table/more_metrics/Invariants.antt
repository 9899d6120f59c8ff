use mathlib.Core.Path.{◌≡◌}
use Prim.Native.Nat.{◌≤◌}
use lib.ListN.{length}
use Rattle.demap.specs.Folds.{label_by_twice, Holds}
use Rattle.demap.proofs.table.more_metrics.Given as goal

abbrev pub invariant-loop-i : goal.invariant-loop-i
invariant-loop-i l = (l.i ≤ l.n) × (length l.m ≡ 32) × Holds (label_by_twice l.ti l.tq l.points) l.i l.m
