use Prim.Native.Nat.{◌-◌, ◌*◌, ◌≤◌}
use mathlib.Core.Path.{◌≡◌}
use lib.ListN.{length}
use Rattle.receiver_bench.specs.Streams.{feed_many, flow, lent_of}
use Rattle.receiver_bench.proofs.measure_receive.Given as goal

abbrev pub invariant-loop-j : goal.invariant-loop-j
invariant-loop-j l = (l.j ≤ l.calls) × (2 * l.taken ≤ length l.bytes) × (flow l.r l.taken l.refusal (lent_of l.acc l.store l.soft) ≡ feed_many (record { bytes = l.bytes; f = l.words.f; s = l.words.s; table = l.table }) l.j (flow l.initial.r l.initial.taken l.initial.refusal (lent_of l.initial.acc l.initial.store l.initial.soft)))
    × (length l.acc ≡ length l.initial.acc) × (length l.store ≡ length l.initial.store) × (length l.soft ≡ length l.initial.soft)
