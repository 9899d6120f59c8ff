use mathlib.Core.Path.{◌≡◌}
use Prim.Native.Nat.{◌≤◌, ◌-◌}
use Rattle.solve_step.specs.Eliminate.{row_from}
use Rattle.solve_step.proofs.rows.update_row.Given as goal

abbrev pub invariant-loop-k : goal.invariant-loop-k
invariant-loop-k l = (l.k ≤ 11) × (row_from l.a l.c l.r l.f l.k (11 - l.k) ≡ row_from l.initial.a l.c l.r l.f l.c (11 - l.c))
