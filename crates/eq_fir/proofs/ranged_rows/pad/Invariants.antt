use Prim.Native.Nat.{◌≤◌}
use Rattle.eq_fir.specs.Fir.{nth}
use Rattle.laws.specs.Ranges.{firsts}
use lib.IntN.{pos}
use lib.ListN.{drop, replicate}
use mathlib.Core.List.{◌++◌}
use mathlib.Core.Path.{◌≡◌}
use Rattle.eq_fir.proofs.ranged_rows.pad.Given as goal

abbrev pub invariant-loop-k : goal.invariant-loop-k
invariant-loop-k l = (l.k ≤ 22) × (l.r ≡ firsts (nth l.l) l.k ++ drop l.k (replicate 24 (pos 0)))
