-- An array that `array::from_fn` makes is a list of values, where each call gives its own. Assumes nothing.
use Rattle.std.proofs.Common.{◌≡◌, ℕ, zero, suc, ◌+◌, ◌<◌, ◌≤◌, List, ◌∷◌, length, get_or, refl, sym, ◌∙◌, ⊎_elim, eq-or-lt_of_le, arith}
use Rattle.std.proofs.lemmas.List.{ext_get_or}
use Rattle.std.specs.Array.{IsFromFnResult, IsFromFnResultFrom}
use denote.Param.Members.{Mut, Called}
use Rattle.laws.specs.Ranges.{firsts}
use Rattle.laws.proofs.Lists.{length-firsts, getD-firsts}
use mathlib.Core.List.{[], append-nil}

module _ {F B : Type 0} (g : Mut F (ℕ × Unit {0}) B) (P : F → Type 0) (h : ℕ → B) (n : ℕ) (each : (p q : F) (i : ℕ) (y : B) → P p → i < n → Called g p (i, tt) y q → (y ≡ h i) × P q) where
  at_from : (k i : ℕ) (p : F) (ys : List B) → P p → i + k ≤ n → IsFromFnResultFrom g p ys i k → (j : ℕ) (d : B) → i ≤ j → j < i + k → get_or ys j d ≡ h j
  at_from zero i p ys o le r j d a b = absurd (omega (arith, a, b))
  at_from (suc k) i p ys o le r j d a b =
      let e = each p r.0 i r.1 o (omega (arith, le)) r.3 in
      ⊎_elim
      (λ (s : i ≡ j). rw (← s) (r.2.1 d ∙ e.0))
      (λ (s : i < j). at_from k (i + 1) r.0 ys e.1 (omega (arith, le)) r.4 j d (omega (arith, s)) (omega (arith, b)))
      (eq-or-lt_of_le a)

  pub made : (f : F) (ys : List B) → P f → IsFromFnResult g f ys n → ys ≡ firsts h n
  unfolding firsts
  made f [] o r = rw (← r.long) refl
  made f (y ∷ t) o r =
      let ys : List B = y ∷ t in
      ext_get_or y ys (firsts h n) (r.long ∙ sym (length-firsts h n))
      (λ (i : ℕ) (l : i < length ys). let k : i < n = rw r.long at l in at_from n 0 f ys o (omega arith) r.each i y (omega arith) (omega (arith, k)) ∙ sym (rw (append-nil (firsts h n)) at (getD-firsts h y n [] i k)))
