use mathlib.Core.Path.{◌≡◌}
use mathlib.Core.Bool.{◌&&◌}
use Prim.Native.Nat.{◌+◌, ◌*◌, ◌-◌, ◌≤◌, ◌<◌}
use Rattle.sums.specs.Sums.{upper_at}
use Rattle.eq_train.specs.Ranges.{row_in_range}
use Rattle.eq_train.proofs.ranges.row_in_range.Given as goal

abbrev pub invariant-loop-c : goal.invariant-loop-c
invariant-loop-c l = (l.r < l.c) × (l.c ≤ 11) × (l.k ≡ 2 * upper_at l.r l.c) × (l.k + 2 * (11 - l.c) ≤ 132) × ((l.all && row_in_range l.n l.s l.r l.c (11 - l.c)) ≡ row_in_range l.n l.s l.r l.r (11 - l.r))
