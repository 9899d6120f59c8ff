use Rattle.std.proofs.Common.{◌≡◌}
use Rattle.digest.specs.Digest.{digest_to}
use Rattle.digest.proofs.of.Given as goal

abbrev pub invariant-loop-v : goal.invariant-loop-v
invariant-loop-v g l = l.d ≡ digest_to g.T.Field.bits l.l l.v-index
