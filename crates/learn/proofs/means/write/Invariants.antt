use mathlib.Core.List.{◌++◌}
use mathlib.Core.Path.{◌≡◌}
use Prim.Native.Nat.{ℕ, ◌+◌, ◌≤◌}
use lib.ListN.{length, drop}
use Rattle.laws.specs.Ranges.{firsts}
use Rattle.learn.specs.Learning.{mean_at}
use Rattle.learn.proofs.means.write.Given as goal

abbrev pub invariant-loop-i : goal.invariant-loop-i
invariant-loop-i l = (l.i ≤ length l.initial.out) × (l.out ≡ firsts (λ (j : ℕ). mean_at l.sum l.count (l.s + j)) l.i ++ drop l.i l.initial.out)
