use mathlib.Core.Path.{◌≡◌}
use mathlib.Core.Bool.{◌&&◌}
use Prim.Native.Nat.{◌*◌, ◌-◌, ◌≤◌}
use Rattle.sums.specs.Sums.{upper_at}
use Rattle.eq_train.specs.Ranges.{upper_in_range}
use Rattle.eq_train.proofs.plain.upper_in_range.Given as goal

abbrev pub invariant-loop-r : goal.invariant-loop-r
invariant-loop-r l = (l.r ≤ 11) × (l.at ≡ 2 * upper_at l.r l.r) × ((l.all && upper_in_range l.n l.s l.r (11 - l.r)) ≡ upper_in_range l.n l.s 0 11)
