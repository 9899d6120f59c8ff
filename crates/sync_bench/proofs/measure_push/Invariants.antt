use Rattle.sync_bench.specs.Streams.{flow, push_many}
use lib.ListN.{length}
use mathlib.Core.Path.{◌≡◌}
use Rattle.sync_bench.proofs.measure_push.Given as goal

abbrev pub invariant-loop-k : goal.invariant-loop-k
invariant-loop-k l = (flow l.t.sync l.k l.t.level l.t.refusal l.acc ≡ push_many l.sy l.words.f l.words.w l.k (flow l.initial.t.sync 0 l.initial.t.level l.initial.t.refusal l.initial.acc)) × (length l.acc ≡ length l.initial.acc)
