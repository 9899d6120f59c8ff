use Prim.Native.Nat.{◌+◌, ◌*◌, ◌≤◌}
use Rattle.lines.specs.Place.{Wrote}
use Rattle.lines.specs.Lines.{values_to}
use Rattle.lines.proofs.put.values.Given as goal

abbrev pub invariant-loop-v : goal.invariant-loop-v
invariant-loop-v l =
    record { wrote : Wrote l.initial.out l.at (values_to l.values l.v-index) l.out l.to; room : l.to ≤ l.at + 22 * l.v-index }
