use mathlib.Core.Path.{◌≡◌}
use Prim.Native.Nat.{◌≤◌}
use lib.ListN.{length}
use Rattle.phase_bench.specs.Blocks.{turned, rotated_all}
use Rattle.phase_bench.proofs.rotate_all.Given as goal

abbrev pub invariant-loop-k : goal.invariant-loop-k
invariant-loop-k l = (l.k ≤ l.m) × (turned l.r l.out ≡ rotated_all l.xs l.table l.k (turned l.initial.r l.initial.out)) × (length l.out ≡ length l.initial.out)
