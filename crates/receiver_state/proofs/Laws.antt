-- Laws of the definitions of receiver_state that its proofs cite. Assumes nothing.
use mathlib.Core.List.{List}
use mathlib.Core.Path.{◌≡◌, refl, sym}
use Prim.Native.Nat.{ℕ, zero, suc, ◌≤◌}
use native.Mathlib.Omega.{arith}
use lib.ListN.{get_or-eq_default}
use Rattle.fields.specs.Fields.{four_told}
use Rattle.frame_line.specs.declared.Metas.{Metas}
use Rattle.receiver.specs.declared.Receiver.{Receiver}
use Rattle.receiver_state.specs.Told.{meta_at_of, parts, part_told}

-- ---- the fifth of those that wait
pub fifth_is : (w : Metas) (k : ℕ) → 4 ≤ k → w.fifth ≡ meta_at_of w k
unfolding meta_at_of
fifth_is w zero h = absurd (omega (arith, h))
fifth_is w (suc zero) h = absurd (omega (arith, h))
fifth_is w (suc (suc zero)) h = absurd (omega (arith, h))
fifth_is w (suc (suc (suc zero))) h = absurd (omega (arith, h))
fifth_is w (suc (suc (suc (suc k)))) h = refl

-- ---- a part that there is not
pub told_none : (k : ℕ) (p : List ℕ) (r : Receiver) → 7 ≤ k → four_told 255 0 0 0 ≡ part_told k p r
unfolding part_told
told_none k p r h = sym (get_or-eq_default (parts p r) (four_told 255 0 0 0) h)
