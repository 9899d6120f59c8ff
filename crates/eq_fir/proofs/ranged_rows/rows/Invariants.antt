use Prim.Native.Nat.{◌/◌, ◌%◌, ◌<◌, ◌≤◌, ℕ}
use Rattle.eq_fir.specs.Rows.{factor_at}
use Rattle.laws.specs.Ranges.{firsts}
use lib.Dec.{eqb, leb}
use lib.IntN.{nat_abs, pos, ℤ}
use lib.ListN.{drop, replicate}
use mathlib.Core.List.{List, ◌++◌}
use mathlib.Core.Path.{◌≡◌}
use Rattle.eq_fir.proofs.ranged_rows.rows.Given as goal

-- entry j, of padded taps
abbrev pub entry : List ℤ → ℕ → ℤ
entry t j = factor_at t (leb 48 j) (eqb (j / 24 % 2) 0) (j % 24)

abbrev pub invariant-loop-j : goal.invariant-loop-j
invariant-loop-j l = (l.j ≤ 96) × (l.r ≡ firsts (entry l.t) l.j ++ drop l.j (replicate 96 (pos 0))) × ((i : ℕ) → i < l.j → nat_abs (entry l.t i) ≤ 255)
