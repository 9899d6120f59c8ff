use mathlib.Core.Path.{◌≡◌}
use Prim.Native.Nat.{◌≤◌, ◌<◌, ◌-◌}
use Rattle.solve_step.specs.Pivot.{scan_from, judged_of, pivot_of}
use Rattle.solve_step.proofs.pivot.find_pivot.Given as goal

abbrev pub invariant-loop-r : goal.invariant-loop-r
invariant-loop-r l = (l.r ≤ 11) × (l.b.row < 11) × (judged_of (scan_from l.a l.c l.r l.b (11 - l.r)) ≡ pivot_of l.a l.c)
