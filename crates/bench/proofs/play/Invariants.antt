-- The bytes that are left begin within them. Assumes nothing.
use lib.ListN.{length}
use Prim.Native.Nat.{◌≤◌}
use Rattle.bench.proofs.play.Given as goal

abbrev pub invariant-turns : goal.invariant-turns
invariant-turns l = l.from ≤ length l.bytes
