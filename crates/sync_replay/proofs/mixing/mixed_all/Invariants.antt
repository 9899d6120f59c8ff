use Rattle.std.proofs.Common.{◌≡◌}
use Rattle.sync_replay.specs.Mixing.{mixed_to}
use Rattle.sync_replay.proofs.mixing.mixed_all.Given as goal

abbrev pub invariant-loop-v : goal.invariant-loop-v
invariant-loop-v l = l.r ≡ mixed_to l.d l.n l.v-index
