use Prim.Native.Nat.{◌-◌, ◌*◌, ◌≤◌}
use lib.ListN.{drop, length, take}
use mathlib.Core.List.{◌++◌}
use mathlib.Core.Path.{◌≡◌}
use Rattle.receiver_slot.specs.Steps.{ahead_on}
use Rattle.receiver_slot.proofs.groups.ahead.Given as goal

abbrev pub invariant-loop-t : goal.invariant-loop-t
invariant-loop-t l = (l.t ≤ l.n) × (l.l ≡ take (280 - 2 * l.t) l.initial.l ++ ahead_on l.k l.t (drop 280 l.initial.l) l.w l.table l.store) × (length l.l ≡ 304)

abbrev pub decreases-loop-t : goal.decreases-loop-t
decreases-loop-t l = l.n - l.t
