use mathlib.Core.Path.{◌≡◌}
use Prim.Native.Nat.{◌*◌, ◌-◌, ◌≤◌}
use Rattle.eq_train.specs.Train.{right_products}
use Rattle.eq_train.specs.Steps.{added_from, Room}
use Rattle.eq_train.proofs.ranged.add_right.Given as goal

abbrev pub invariant-loop-r : goal.invariant-loop-r
invariant-loop-r l = (l.r ≤ 11) × (Room l.p (2 * l.r) 22) × (added_from l.p (2 * l.r) (right_products l.line l.di l.dq l.r (11 - l.r)) ≡ added_from l.initial.p 0 (right_products l.line l.di l.dq 0 11))
