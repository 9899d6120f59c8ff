-- The rest of a slot by the line alone, one step at a time. Assumes nothing.
use Prim.Native.Nat.{ℕ, zero, suc, ◌+◌, ◌-◌, ◌≤◌}
use mathlib.Core.List.{List, [], ◌++◌}
use mathlib.Core.Path.{◌≡◌, refl, ap, subst}
use native.Mathlib.Numerals.{add-one}
use native.Mathlib.Omega.{arith}
use lib.IntN.{ℤ}
use lib.ListN.{length, length-append, length-take}
use Rattle.phase.specs.declared.WholeSlot.{WholeSlot}
use Rattle.phase.specs.Phase.{corrected_of}
use Rattle.eq_fir.specs.Fir.{line_after}
use Rattle.eq_fir.specs.Rows.{output_by}
use Rattle.frame_map.specs.Map.{part_of}
use Rattle.receiver_slot.specs.declared.Points.{Points}
use Rattle.receiver_slot.specs.Slot.{soft_of}
use Rattle.receiver_slot.specs.Steps.{line_on, soft_on}

pub line_after_lem : (line : List ℤ) (i q : ℤ) → length line ≡ 22 → length (line_after line i q) ≡ 22
unfolding line_after
line_after_lem line i q h = omega (arith, h, length-take 20 line)

module _ (p : Points) (rows line : List ℤ) (w : WholeSlot) (table store : List ℤ) where
  abbrev lines : ℕ → List ℤ
  lines k = line_on k line w table store

  abbrev softs : ℕ → List ℤ
  softs k = soft_on k p rows line w table store

  -- what symbol 29 + k lets out
  abbrev out : ℕ → List ℤ
  out k = soft_of (part_of (24 + k)) p (output_by rows (lines (k + 1)))

  pub line-none : lines 0 ≡ line
  unfolding line_on
  line-none = refl

  pub softs-none : softs 0 ≡ []
  unfolding soft_on
  softs-none = refl

  pub line_long : length line ≡ 22 → (k : ℕ) → length (lines k) ≡ 22
  unfolding line_on
  line_long h zero = h
  line_long h (suc k) = let y = (corrected_of w table store (29 + k)).y in line_after_lem (lines k) y.i y.q (line_long h k)

  softs-step : (k : ℕ) → softs (k + 1) ≡ softs k ++ out k
  unfolding soft_on
  softs-step k = rw (add-one k)

  grows : (d k m : ℕ) → d + k ≡ m → length (softs k) ≤ length (softs m)
  grows zero k m e = subst (λ (i : ℕ). length (softs k) ≤ length (softs i)) {x = k} (omega (arith, e)) (omega arith)
  grows (suc d) k m e =
      subst (λ (i : ℕ). length (softs k) ≤ length (softs i)) {x = d + k + 1} (omega (arith, e))
      (omega (arith, grows d k (d + k) refl, ap {B = ℕ} (λ (l : List ℤ). length l) (softs-step (d + k)), length-append (softs (d + k)) (out (d + k))))

  pub softs-room : (k : ℕ) → k ≤ 9267 → length (softs k) ≤ length (softs 9267)
  softs-room k h = grows (9267 - k) k 9267 (omega (arith, h))
