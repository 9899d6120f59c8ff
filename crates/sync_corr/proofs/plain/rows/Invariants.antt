use mathlib.Core.Path.{◌≡◌}
use Prim.Native.Nat.{◌-◌, ◌≤◌}
use Rattle.sync_corr.specs.Rows.{rows_to}
use Rattle.sync_corr.proofs.plain.rows.Given as goal

abbrev pub invariant-loop-j : goal.invariant-loop-j
invariant-loop-j l = (l.j ≤ 192) × (l.r ≡ rows_to l.f l.s l.j)
