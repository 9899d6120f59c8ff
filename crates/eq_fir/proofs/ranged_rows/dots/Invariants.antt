use Prim.Native.Nat.{◌≤◌}
use Rattle.eq_fir.proofs.Bytes.{Sum}
use Rattle.eq_fir.proofs.ranged_rows.dots.Given as goal

abbrev pub invariant-loop-k : goal.invariant-loop-k
invariant-loop-k l = (l.k ≤ 24) × Sum l.l l.rows 0 l.k l.a × Sum l.l l.rows 24 l.k l.b × Sum l.l l.rows 48 l.k l.c × Sum l.l l.rows 72 l.k l.d
