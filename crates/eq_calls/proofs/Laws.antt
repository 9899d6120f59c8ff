-- Laws of the definitions of eq_calls that its proofs cite. Assumes nothing.
use mathlib.Core.List.{List}
use mathlib.Core.Path.{◌≡◌, sym}
use Prim.Native.Nat.{ℕ, ◌≤◌}
use lib.ListN.{get_or-eq_default}
use Rattle.eq_calls.specs.declared.kept.Kept.{Kept}
use Rattle.eq_calls.specs.Turns.{same, turns, turn_of}

-- a call that there is not
pub turn_none : (op : ℕ) (p : List ℕ) (k : Kept) → 16 ≤ op → same k 255 ≡ turn_of op p k
unfolding turn_of
turn_none op p k h = sym (get_or-eq_default (turns p k) (same k 255) h)
