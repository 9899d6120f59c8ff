use mathlib.Core.Path.{◌≡◌}
use Prim.Native.Nat.{◌≤◌, ◌+◌, ◌-◌}
use Rattle.solve_step.specs.Back.{rest_from}
use Rattle.solve_step.proofs.back.rest.Given as goal

abbrev pub invariant-loop-k : goal.invariant-loop-k
invariant-loop-k l = (l.k ≤ 11) × (rest_from l.a l.x l.r l.k l.t (11 - l.k) ≡ rest_from l.a l.x l.r (l.r + 1) l.initial.t (11 - (l.r + 1)))
