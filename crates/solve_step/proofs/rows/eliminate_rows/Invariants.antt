use mathlib.Core.Path.{◌≡◌}
use Prim.Native.Nat.{◌≤◌, ◌+◌, ◌-◌}
use Rattle.solve_step.specs.Eliminate.{system_of, rows_from}
use Rattle.solve_step.proofs.rows.eliminate_rows.Given as goal

abbrev pub invariant-loop-r : goal.invariant-loop-r
invariant-loop-r l = (l.r ≤ 11) × (rows_from (system_of l.a l.b) l.c l.r (11 - l.r) ≡ rows_from (system_of l.initial.a l.initial.b) l.c (l.c + 1) (11 - (l.c + 1)))
