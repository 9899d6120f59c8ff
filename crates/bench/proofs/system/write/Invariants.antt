use Prim.Native.Nat.{◌≤◌}
use lib.ListN.{length}
use Rattle.bench.proofs.system.write.Given as goal

abbrev pub invariant-writes : goal.invariant-writes
invariant-writes l = l.done ≤ length l.out
