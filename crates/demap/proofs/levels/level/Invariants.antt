use mathlib.Core.List.{◌++◌}
use mathlib.Core.Path.{◌≡◌}
use Prim.Native.Nat.{ℕ, ◌+◌, ◌≤◌}
use lib.ListN.{drop}
use Rattle.laws.specs.Ranges.{least_of, firsts}
use Rattle.demap.specs.Demap.{every}
use Rattle.demap.specs.Folds.{entry, fold}
use Rattle.demap.proofs.levels.level.Given as goal

abbrev pub invariant-loop-t : goal.invariant-loop-t
invariant-loop-t l = (l.t ≤ l.half) × (l.m ≡ firsts (fold (entry l.initial.m) l.half) l.t ++ drop l.t l.initial.m)
    × (l.a ≡ least_of every (entry l.initial.m) (entry l.initial.m 0) l.t)
    × (l.b ≡ least_of every (λ (u : ℕ). entry l.initial.m (l.half + u)) (entry l.initial.m l.half) l.t)
