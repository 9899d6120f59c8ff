use mathlib.Core.Path.{◌≡◌}
use mathlib.Core.List.{List}
use Prim.Native.Nat.{ℕ, ◌-◌, ◌*◌, ◌^◌, ◌≤◌}
use lib.IntN.{ℤ, nat_abs}
use Rattle.sync_corr.specs.Rows.{dot_to}
use Rattle.sync_corr.proofs.ranged.dots.Given as goal

-- v is the sum of the first n products with the row at b
pub record Sum (win rows : List ℤ) (b n : ℕ) (v : ℤ) : Type 0 where
  pub is : v ≡ dot_to win rows b n
  pub small : nat_abs (dot_to win rows b n) ≤ 2 ^ 15 * n

abbrev pub invariant-loop-k : goal.invariant-loop-k
invariant-loop-k l = (l.k ≤ 48) × Sum l.win l.rows 0 l.k l.fr × Sum l.win l.rows 48 l.k l.fi × Sum l.win l.rows 96 l.k l.sr × Sum l.win l.rows 144 l.k l.si
