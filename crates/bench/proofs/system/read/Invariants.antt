use Prim.Native.Nat.{◌≤◌}
use lib.ListN.{length}
use Rattle.bench.proofs.system.read.Given as goal

abbrev pub invariant-reads : goal.invariant-reads
invariant-reads l = l.done ≤ length l.buf
