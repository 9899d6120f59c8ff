use mathlib.Core.List.{◌++◌}
use mathlib.Core.Path.{◌≡◌}
use Prim.Native.Nat.{ℕ, ◌+◌, ◌*◌}
use lib.ListN.{drop}
use Rattle.laws.specs.Ranges.{firsts}
use Rattle.capture.specs.Bytes.{short_at}
use Rattle.capture.proofs.bodies.table.Given as goal

abbrev pub invariant-loop-i : goal.invariant-loop-i
invariant-loop-i l = l.out ≡ firsts (λ (j : ℕ). short_at l.bytes (129 + 2 * j)) l.i ++ drop l.i l.initial.out
