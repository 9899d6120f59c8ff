use mathlib.Core.Path.{◌≡◌}
use Prim.Native.Nat.{◌≤◌}
use lib.ListN.{length}
use Rattle.phase_bench.specs.Slots.{places, corrected_all}
use Rattle.phase_bench.proofs.correct_all.Given as goal

abbrev pub invariant-loop-j : goal.invariant-loop-j
invariant-loop-j l = (l.j ≤ 9296) × (places l.y l.phi l.gain ≡ corrected_all l.w l.table l.store l.j (places l.initial.y l.initial.phi l.initial.gain)) × (length l.y ≡ 18592) × (length l.phi ≡ 9296) × (length l.gain ≡ 9296)
