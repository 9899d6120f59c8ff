use Prim.Native.Nat.{◌≤◌}
use Rattle.eq_bench.proofs.Laws.{Trained}
use Rattle.eq_bench.proofs.train_all.Given as goal

abbrev pub invariant-loop-k : goal.invariant-loop-k
invariant-loop-k l = (l.k ≤ l.m) × Trained l.ys l.di l.dq l.k l.line l.s
