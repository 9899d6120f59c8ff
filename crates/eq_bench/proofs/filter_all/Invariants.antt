use mathlib.Core.Path.{◌≡◌}
use Prim.Native.Nat.{◌≤◌}
use lib.ListN.{length}
use Rattle.eq_bench.specs.Blocks.{filtered, filtered_by}
use Rattle.eq_bench.proofs.filter_all.Given as goal

abbrev pub invariant-loop-k : goal.invariant-loop-k
invariant-loop-k l = (l.k ≤ l.m) × (filtered l.line l.out ≡ filtered_by l.rows l.ys l.k (filtered l.initial.line l.initial.out)) × (length l.line ≡ 22) × (length l.out ≡ length l.initial.out)
