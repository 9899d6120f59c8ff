use mathlib.Core.Bool.{false}
use mathlib.Core.List.{◌++◌}
use mathlib.Core.Path.{◌≡◌}
use Prim.Native.Nat.{ℕ, ◌+◌, ◌≤◌}
use lib.ListN.{length, drop, replicate}
use Rattle.laws.specs.Ranges.{firsts}
use Rattle.learn.specs.Learning.{set_learned}
use Rattle.in_force.specs.InForce.{slices_learned}
use Rattle.in_force.proofs.ranged.all_pointed.Given as goal

abbrev pub invariant-loop-i : goal.invariant-loop-i
invariant-loop-i l = (l.i ≤ 5) × (l.flag-items ≡ firsts (λ (b : ℕ). set_learned l.l (b + 1)) l.i ++ drop l.i (replicate 5 false)) × (l.learned ≡ slices_learned l.l l.i l.initial.learned)
    × (length l.learned ≡ 124)
