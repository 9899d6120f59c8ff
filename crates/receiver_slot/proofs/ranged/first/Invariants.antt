use mathlib.Core.Path.{◌≡◌}
use Prim.Native.Nat.{◌-◌, ◌≤◌}
use lib.ListN.{length}
use Rattle.receiver_slot.specs.Slot.{written_on}
use Rattle.receiver_slot.specs.Steps.{back_at, soft_to}
use Rattle.receiver_slot.proofs.ranged.first.Given as goal

abbrev pub invariant-loop-j : goal.invariant-loop-j
invariant-loop-j l = (l.j ≤ 29) × (l.back ≡ back_at l.j l.initial.back l.w l.table l.store l.f l.s) × (l.o ≡ length (soft_to l.j l.p l.initial.back l.w l.table l.store l.f l.s)) × (l.soft ≡ written_on (soft_to l.j l.p l.initial.back l.w l.table l.store l.f l.s) l.initial.soft)

abbrev pub decreases-loop-j : goal.decreases-loop-j
decreases-loop-j l = 29 - l.j
