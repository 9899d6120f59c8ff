use mathlib.Core.Bool.{not}
use mathlib.Core.Path.{◌≡◌}
use Prim.Native.Nat.{ℕ, ◌-◌}
use lib.Signed.{lt_z}
use Rattle.laws.specs.Ranges.{first_from}
use Rattle.demap.specs.Demap.{label_metric, lowest_label}
use Rattle.demap.proofs.ranged.lowest_label.Given as goal

-- what is still to be searched gives what the whole search gives
abbrev pub invariant-loop-i : goal.invariant-loop-i
invariant-loop-i l =
    let f = label_metric l.yi l.yq l.points in first_from (λ (u : ℕ). not (lt_z l.v (f u))) (l.n - l.i) l.i ≡ lowest_label f l.n l.v
