use Prim.Native.Nat.{◌≤◌}
use Rattle.eq_fir.proofs.Bytes.{Sum}
use Rattle.eq_fir.specs.Rows.{padded}
use lib.ListN.{drop}
use Rattle.eq_fir.proofs.ranged_rows.dots_at.Given as goal

abbrev pub invariant-loop-k : goal.invariant-loop-k
invariant-loop-k l = (l.k ≤ 24) × Sum (padded (drop l.at l.l)) l.rows 0 l.k l.a × Sum (padded (drop l.at l.l)) l.rows 24 l.k l.b × Sum (padded (drop l.at l.l)) l.rows 48 l.k l.c × Sum (padded (drop l.at l.l)) l.rows 72 l.k l.d
