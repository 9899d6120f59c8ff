use mathlib.Core.Path.{◌≡◌}
use Prim.Native.Nat.{ℕ, ◌^◌, ◌≤◌, ◌<◌}
use lib.ListN.{length}
use Rattle.demap.specs.Folds.{label_by_twice, entry, Small}
use Rattle.demap.proofs.table.all_metrics.Given as goal

-- a label below both 2^b and 2^bits is there: a turn that does nothing needs no case
abbrev pub invariant-loop-b : goal.invariant-loop-b
invariant-loop-b l = let f = label_by_twice l.ti l.tq l.points in
    (l.b ≤ 5) × (length l.m ≡ 32) × ((u : ℕ) → u < 2 ^ l.b → u < 2 ^ l.bits → (entry l.m u ≡ f u) × Small (f u))
