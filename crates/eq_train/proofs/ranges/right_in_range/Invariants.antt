use mathlib.Core.Path.{◌≡◌}
use mathlib.Core.Bool.{◌&&◌}
use Prim.Native.Nat.{◌-◌, ◌≤◌}
use Rattle.eq_train.specs.Ranges.{right_in_range}
use Rattle.eq_train.proofs.ranges.right_in_range.Given as goal

abbrev pub invariant-loop-r : goal.invariant-loop-r
invariant-loop-r l = (l.r ≤ 11) × ((l.all && right_in_range l.n l.p l.r (11 - l.r)) ≡ right_in_range l.n l.p 0 11)
