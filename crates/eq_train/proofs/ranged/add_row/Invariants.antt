use mathlib.Core.Path.{◌≡◌}
use Prim.Native.Nat.{◌+◌, ◌*◌, ◌-◌, ◌≤◌}
use Rattle.eq_train.specs.Train.{row_products}
use Rattle.eq_train.specs.Steps.{added_from, Room}
use Rattle.eq_train.proofs.ranged.add_row.Given as goal

abbrev pub invariant-loop-c : goal.invariant-loop-c
invariant-loop-c l = (l.c ≤ 11) × (l.k + 2 * (11 - l.c) ≤ 132) × (Room l.s l.k 132) × (added_from l.s l.k (row_products l.line l.r l.c (11 - l.c)) ≡ added_from l.initial.s l.at (row_products l.line l.r l.r (11 - l.r)))
