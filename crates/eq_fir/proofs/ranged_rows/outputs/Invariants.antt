use Prim.Native.Nat.{◌*◌, ◌≤◌}
use Rattle.eq_fir.specs.Rows.{outputs_by}
use Rattle.laws.specs.Ranges.{firsts}
use lib.ListN.{drop, length}
use mathlib.Core.List.{◌++◌}
use mathlib.Core.Path.{◌≡◌}
use Rattle.eq_fir.proofs.ranged_rows.outputs.Given as goal

abbrev pub invariant-loop-k : goal.invariant-loop-k
invariant-loop-k l = (l.k ≤ l.n) × (l.out ≡ firsts (outputs_by l.rows l.l l.end) (2 * l.k) ++ drop (2 * l.k) l.initial.out) × (length l.out ≡ length l.initial.out)
