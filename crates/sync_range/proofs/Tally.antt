-- The figures of the running period stay within its positions times the greatest accumulator. Assumes nothing.
use Prim.Native.Nat.{◌%◌, ◌*◌, ◌+◌, ◌-◌, ◌<◌, ◌^◌, ◌≤◌, suc, ℕ}
use Rattle.laws.proofs.Tests.{by_test, if_both}
use Rattle.laws.specs.Choice.{if_no, if_yes}
use Rattle.sync_lock.specs.Period.{added_of, counted_of, leak_of, no_tally}
use Rattle.sync_lock.specs.declared.Tally.{Tally}
use Rattle.sync_range.specs.Coherent.{Bound, TallyFits, most_of, running_of, size_most}
use Rattle.sync_step.specs.Step.{place_of}
use borrow.Author.Tests.{eq-eqb, eqb-false, eqb-true, ne_eqb}
use lib.Dec.{eqb}
use mathlib.Core.Path.{◌∙◌, ◌≡◌, sym}
use native.Mathlib.Nat.{add_assoc}
use native.Mathlib.Numerals.{add-one}
use native.Mathlib.Omega.{arith}

pub level_fits : (b : Bound) (a size : ℕ) → a < 2 ^ 32 → size ≤ size_most b → leak_of a size ≤ most_of b
unfolding leak_of most_of
level_fits b a size h k = omega arith

-- ---- the positions of the running period
running_first : (t : ℕ) → 23 ≤ t → place_of 9296 t ≡ 0 → running_of (t + 1) ≡ 1
unfolding running_of place_of
running_first t h e = omega arith

running_late : (u : ℕ) → running_of (24 + u) ≡ u % 9296 + 1
unfolding running_of
running_late u = omega arith

place_next : (u : ℕ) → (place_of 9296 (24 + u) ≡ 0 → ⊥) → suc u % 9296 ≡ suc (u % 9296)
unfolding place_of
place_next u e = let f : 24 + u - 23 ≡ suc u = omega arith in next (λ (z : suc u % 9296 ≡ 0). e (rw f z))
  where
    next : (suc u % 9296 ≡ 0 → ⊥) → suc u % 9296 ≡ suc (u % 9296)
    next e = omega arith

place_late : (t : ℕ) → 23 ≤ t → (place_of 9296 t ≡ 0 → ⊥) → t ≡ 24 + (t - 24)
unfolding place_of
place_late t h e = omega arith

running_next : (t : ℕ) → 23 ≤ t → (place_of 9296 t ≡ 0 → ⊥) → running_of (t + 1) ≡ suc (running_of t)
running_next t h e = rw (place_late t h e) (next (t - 24) (λ z. e (rw (place_late t h e) z)))
  where
    next : (u : ℕ) → (place_of 9296 (24 + u) ≡ 0 → ⊥) → running_of (24 + u + 1) ≡ suc (running_of (24 + u))
    next u e = rw (add_assoc 24 u 1, add-one u, running_late (suc u), running_late u, place_next u e) (omega arith)

running_none : (t : ℕ) → t < 24 → running_of t ≡ 0
unfolding running_of
running_none t h = omega arith

pub running_most : (t : ℕ) → running_of t ≤ 9296
unfolding running_of
running_most t = omega arith

pub place_most : (t : ℕ) → place_of 9296 t ≤ 9295
unfolding place_of
place_most t = omega arith

-- ---- the figures of j positions with accumulators of at most m
abbrev Figures : ℕ → ℕ → Tally → Type 0
Figures m j y = (y.peak ≤ m) × (y.place ≤ 9295) × (y.sum ≤ j * m)

no_figures : (m : ℕ) → Figures m 0 no_tally
unfolding no_tally
no_figures m = (omega arith, omega arith, omega arith)

added-figures : (m j p a : ℕ) (y : Tally) → Figures m j y → p ≤ 9295 → a ≤ m → Figures m (suc j) (added_of y p a)
unfolding added_of
added-figures m j p a y h k l =
    let s : y.sum + a ≤ suc j * m = omega (arith, h.2) in
    if_both (Figures m (suc j)) _ _ _ (l, k, s) (h.0, h.1, s)

counted_figures : (m j p a : ℕ) (y : Tally) → Figures m j y → p ≤ 9295 → a ≤ m →
    (p ≡ 0 → Figures m 1 (counted_of y p a)) × ((p ≡ 0 → ⊥) → Figures m (suc j) (counted_of y p a))
unfolding counted_of
counted_figures m j p a y h k l = (
  (λ e. rw (if_yes _ (added_of no_tally p a) (added_of y p a) (eq-eqb p 0 e)) (added-figures m 0 p a no_tally (no_figures m) k l)),
  (λ e. rw (if_no _ (added_of no_tally p a) (added_of y p a) (ne_eqb p 0 e)) (added-figures m j p a y h k l)),
)

-- ---- what a symbol leaves
figures : (b : Bound) (t : ℕ) (y : Tally) → TallyFits b t y → Figures (most_of b) (running_of t) y
figures b t y h = (h.peak, h.place, h.sum)

fits : (b : Bound) (t j : ℕ) (y : Tally) → running_of t ≡ j → Figures (most_of b) j y → TallyFits b t y
fits b t j y e h = record { peak = h.0; place = h.1; sum = rw e h.2 }

pub no_tally_fits : (b : Bound) → TallyFits b 0 no_tally
no_tally_fits b = fits b 0 0 no_tally (running_none 0 (omega arith)) (no_figures (most_of b))

pub early_tally_fits : (b : Bound) (t : ℕ) (y : Tally) → t < 23 → TallyFits b t y → TallyFits b (t + 1) y
early_tally_fits b t y l h = fits b (t + 1) (running_of t) y (running_none (t + 1) (omega arith) ∙ sym (running_none t (omega arith))) (figures b t y h)

pub counted_fits : (b : Bound) (t a : ℕ) (y : Tally) → 23 ≤ t → a ≤ most_of b → TallyFits b t y → TallyFits b (t + 1) (counted_of y (place_of 9296 t) a)
counted_fits b t a y l k h =
    let g = counted_figures (most_of b) (running_of t) (place_of 9296 t) a y (figures b t y h) (place_most t) k in
    by_test (eqb (place_of 9296 t) 0)
    (λ e. let z = eqb-true (place_of 9296 t) 0 e in fits b (t + 1) 1 _ (running_first t l z) (g.0 z))
    (λ e. let z = eqb-false (place_of 9296 t) 0 e in fits b (t + 1) (suc (running_of t)) _ (running_next t l z) (g.1 z))
