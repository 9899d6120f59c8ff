use Prim.Native.Nat.{◌-◌, ◌≤◌}
use mathlib.Core.Path.{◌≡◌}
use lib.ListN.{length}
use Rattle.receiver_bench.specs.Streams.{flow, lent_of, symbol_many}
use Rattle.receiver_bench.proofs.measure_symbols.Given as goal

abbrev pub invariant-loop-i : goal.invariant-loop-i
invariant-loop-i l = (l.i ≤ l.m) × (flow l.r l.i l.refusal (lent_of l.acc l.store l.soft) ≡ symbol_many (record { bytes = l.bytes; f = l.words.f; s = l.words.s; table = l.table }) l.i (flow l.initial.r 0 l.initial.refusal (lent_of l.initial.acc l.initial.store l.initial.soft)))
    × (length l.acc ≡ length l.initial.acc) × (length l.store ≡ length l.initial.store) × (length l.soft ≡ length l.initial.soft)
