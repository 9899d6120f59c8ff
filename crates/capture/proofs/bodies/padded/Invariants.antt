use mathlib.Core.List.{◌++◌}
use mathlib.Core.Path.{◌≡◌}
use Prim.Native.Nat.{ℕ, ◌+◌, ◌*◌}
use lib.IntN.{pos}
use lib.ListN.{drop, replicate}
use Rattle.laws.specs.Ranges.{firsts}
use Rattle.capture.specs.Bytes.{short_at}
use Rattle.capture.proofs.bodies.padded.Given as goal

abbrev pub invariant-loop-i : goal.invariant-loop-i
invariant-loop-i l = l.t ≡ firsts (λ (j : ℕ). short_at l.bytes (2178 + 2 * j)) l.i ++ drop l.i (replicate 64 (pos 0))
