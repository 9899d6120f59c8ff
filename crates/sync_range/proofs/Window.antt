-- The window keeps its length and its bounds. Assumes nothing.
use Prim.Native.Nat.{◌*◌, ◌+◌, ◌<◌, ◌≤◌, suc, ℕ}
use Rattle.laws.proofs.Tests.{by_test}
use Rattle.sync.specs.Sync.{no_window, window_after}
use Rattle.sync_range.specs.Coherent.{Bound, WindowFits}
use borrow.Author.Tests.{eqb-false, eqb-true, ltb-false, ltb-true}
use lib.Dec.{eqb, ltb}
use lib.IntN.{nat_abs, pos, ℤ}
use lib.ListN.{get_or-append, drop, get_or, get_or-replicate, length, length-append, length-drop, length-replicate, replicate}
use lib.Seq.{get_or-append-add, get_or_at, get_or-drop}
use mathlib.Core.List.{List, [], ◌∷◌}
use mathlib.Core.Path.{◌∙◌, ◌≡◌}
use native.Mathlib.Omega.{arith}
use Rattle.sync_corr.specs.Correlate.{at}

pub no_window_fits : (b : Bound) → WindowFits b no_window
unfolding no_window at
no_window_fits b =
    let z : (j : ℕ) → j < 48 → get_or (replicate 48 (pos 0)) j (pos 0) ≡ pos 0 = λ j l. get_or-replicate {A = ℤ} 48 j (pos 0) (pos 0) l in
    record {
      pairs = length-replicate {A = ℤ} 48 (pos 0);
      small = λ j l. rw (z j l) (omega arith);
      close = λ k l. rw (z (2 * k) (omega arith), z (2 * k + 1) (omega arith)) (omega arith);
    }

-- ---- what stands in the window after a symbol
window_old : (win : List ℤ) (i q : ℤ) (j : ℕ) → length win ≡ 48 → j < 46 → at (window_after win i q) j ≡ at win (2 + j)
unfolding window_after at
window_old win i q j e l =
    get_or-append (drop 2 win) (i ∷ q ∷ []) (pos 0) j (rw (length-drop 2 win) (omega (arith, e))) ∙ get_or-drop 2 win j (pos 0)

window_i : (win : List ℤ) (i q : ℤ) → length win ≡ 48 → at (window_after win i q) 46 ≡ i
unfolding window_after at
window_i win i q e = get_or_at (drop 2 win) i (q ∷ []) (pos 0) 46 (length-drop 2 win ∙ rw e)

window_q : (win : List ℤ) (i q : ℤ) → length win ≡ 48 → at (window_after win i q) 47 ≡ q
unfolding window_after at
window_q win i q e = rw (length-drop 2 win, e) at (get_or-append-add (drop 2 win) (i ∷ q ∷ []) 1 (pos 0))

window_small : (b : Bound) (win : List ℤ) (i q : ℤ) → WindowFits b win → nat_abs i ≤ b.part → nat_abs q ≤ b.part → (j : ℕ) → j < 48 →
    nat_abs (at (window_after win i q) j) ≤ b.part
window_small b win i q h hi hq j l =
    by_test (ltb j 46)
    (λ t. let k = ltb-true j 46 t in rw (window_old win i q j h.pairs k) (h.small (2 + j) (omega arith)))
    (λ t.
    by_test (eqb j 46)
    (λ u. rw (eqb-true j 46 u, window_i win i q h.pairs) hi)
    (λ u. rw (last (ltb-false j 46 t) (eqb-false j 46 u), window_q win i q h.pairs) hq))
  where
    last : 46 ≤ j → (j ≡ 46 → ⊥) → j ≡ 47
    last k v = omega arith

window_close : (b : Bound) (win : List ℤ) (i q : ℤ) → WindowFits b win → nat_abs i + nat_abs q ≤ b.sum → (k : ℕ) → k < 24 →
    nat_abs (at (window_after win i q) (2 * k)) + nat_abs (at (window_after win i q) (2 * k + 1)) ≤ b.sum
window_close b win i q h c k l =
    by_test (ltb k 23)
    (λ t.
    let m = ltb-true k 23 t in
    let e : 2 + 2 * k ≡ 2 * suc k = omega arith in
    let f : 2 + (2 * k + 1) ≡ 2 * suc k + 1 = omega arith in
    rw (window_old win i q (2 * k) h.pairs (omega arith), window_old win i q (2 * k + 1) h.pairs (omega arith), e, f) (h.close (suc k) (omega arith)))
    (λ t. rw (last (ltb-false k 23 t), window_i win i q h.pairs, window_q win i q h.pairs) c)
  where
    last : 23 ≤ k → k ≡ 23
    last m = omega arith

window_pairs : (win : List ℤ) (i q : ℤ) → length win ≡ 48 → length (window_after win i q) ≡ 48
unfolding window_after
window_pairs win i q e = length-append (drop 2 win) (i ∷ q ∷ []) ∙ rw (length-drop 2 win, e)

pub window_after_fits : (b : Bound) (win : List ℤ) (i q : ℤ) → WindowFits b win → nat_abs i ≤ b.part → nat_abs q ≤ b.part →
    nat_abs i + nat_abs q ≤ b.sum →
    WindowFits b (window_after win i q)
window_after_fits b win i q h hi hq c =
    record { pairs = window_pairs win i q h.pairs; small = window_small b win i q h hi hq; close = window_close b win i q h c }
