use mathlib.Core.Path.{◌≡◌}
use Prim.Native.Nat.{◌-◌, ◌≤◌}
use Rattle.sync_corr.specs.Correlate.{ones_to}
use Rattle.sync_corr.proofs.plain.ones.Given as goal

abbrev pub invariant-loop-k : goal.invariant-loop-k
invariant-loop-k l = (l.k ≤ 48) × (l.all ≡ ones_to l.w l.k)
