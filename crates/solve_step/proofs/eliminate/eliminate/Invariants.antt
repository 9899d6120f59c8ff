use mathlib.Core.Path.{◌≡◌}
use Prim.Native.Nat.{◌-◌}
use Rattle.solve_step.specs.Eliminate.{system_of, reduce_from}
use Rattle.solve_step.proofs.eliminate.eliminate.Given as goal

abbrev pub invariant-loop-c : goal.invariant-loop-c
invariant-loop-c l = reduce_from (system_of l.a l.b) l.c (11 - l.c) ≡ reduce_from l.fn.s 0 11
