use mathlib.Core.Path.{◌≡◌}
use Prim.Native.Nat.{◌-◌, ◌≤◌}
use lib.ListN.{length}
use Rattle.receiver_slot.proofs.Stretches.{Done, start_of}
use Rattle.receiver_slot.proofs.ranged.rest.Given as goal

abbrev pub invariant-loop-g : goal.invariant-loop-g
invariant-loop-g l = (l.g ≤ 66) × Done l.p l.rows l.initial.line l.w l.table l.store (start_of l.g) l.place l.o l.line l.soft l.initial.soft × (length l.z ≡ 272)

abbrev pub decreases-loop-g : goal.decreases-loop-g
decreases-loop-g l = 66 - l.g
