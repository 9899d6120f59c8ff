use mathlib.Core.Path.{◌≡◌}
use Prim.Native.Nat.{◌≤◌, ◌-◌}
use Rattle.solve_step.specs.Eliminate.{swap_from}
use Rattle.solve_step.proofs.rows.swap_rows.Given as goal

abbrev pub invariant-loop-k : goal.invariant-loop-k
invariant-loop-k l = (l.k ≤ 11) × (swap_from l.a l.c l.p l.k (11 - l.k) ≡ swap_from l.initial.a l.c l.p 0 11)
