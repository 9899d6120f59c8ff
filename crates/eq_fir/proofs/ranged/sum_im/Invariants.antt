use Prim.Native.Nat.{◌≤◌}
use Rattle.eq_fir.proofs.Laws.{Summed}
use Rattle.eq_fir.specs.Fir.{filtered}
use Rattle.eq_fir.proofs.ranged.sum_im.Given as goal

abbrev pub invariant-loop-k : goal.invariant-loop-k
invariant-loop-k l = (l.k ≤ 11) × Summed (filtered l.taps l.line l.k).im l.k l.a
