-- The kinds of losses: by markers, or by the eighth other period in a row; and each of them loses. Assumes nothing.
use Rattle.std.specs.Prelude.{Option}
use Rattle.sync_heads.specs.declared.FrameHead.{FrameHead}
use Prim.Native.Nat.{ℕ, suc, ◌-◌, ◌/◌, ◌%◌, ◌≤◌}
use Rattle.guarantee.proofs.Stretch.{grown-length}
use Rattle.guarantee.proofs.Tied.{Tied, is_lost_lem}
use Rattle.guarantee.specs.Calls.{Call, System}
use Rattle.guarantee.specs.Calls.{symbol, points, taps, opens, ends, restarts}
use Rattle.guarantee.specs.Demand.{stretch_with}
use Rattle.guarantee.specs.History.{History, loses_by, loses_with, push_of, refusal_in, with_symbol}
use Rattle.laws.proofs.Tests.{and_both, by_test, never}
use Rattle.laws.specs.Choice.{if_no, if_yes}
use Rattle.receiver.specs.Symbol.{Input}
use Rattle.sync_history.specs.History.{Eighth, end_of}
use Rattle.sync_tie.proofs.Claims.{markers_are}
use Rattle.sync_tie.proofs.Says.{eighth-found, found-eighth}
use Rattle.sync_tie.specs.Pushes.{Push, size_at}
use Rattle.sync_tie.specs.Stretch.{LostByMarkers, eighth_ends, ends_at, loses_at, markers_lose_at}
use borrow.Author.Tests.{eq-eqb, eqb-true, le-leb}
use lib.Dec.{eqb, lit≤}
use lib.ListN.{length}
use mathlib.Core.Bool.{true}
use mathlib.Core.List.{List}
use mathlib.Core.Logic.{◌⊎◌, inl, inr}
use Rattle.std.proofs.lemmas.Bool.{or_right}
use mathlib.Core.Path.{◌∙◌, ◌≡◌, ap, refl, subst, sym}
use native.Mathlib.Omega.{arith}

-- of m + 1 symbols g, the last loses by the one or by the other
abbrev pub Cause : List Push → ℕ → Type 0
Cause g m = LostByMarkers 9296 g (m - 23) ⊎ ((p : ℕ) × (k : ℕ) × Eighth 9296 (size_at g) p k × (length g ≡ end_of 9296 k))

module _ (base : ℕ) (last : Option FrameHead) (g : List Push) (m : ℕ) where
  by-period : length g ≡ suc m → 23 ≤ m → ends_at 9296 base last g (m - 23) ≡ true → eighth_ends 9296 base last g (m - 23) ≡ true → Cause g m
  unfolding ends_at end_of
  by-period n l d e =
      let x = eighth-found 9296 base last g (m - 23) e in
      let y = eqb-true ((m - 23) % 9296) 9295 d in
      inr (x.0, (m - 23) / 9296, x.1, omega (arith, n, l, y))

  kind : length g ≡ suc m → 23 ≤ m → loses_at 9296 base last g (m - 23) ≡ true → Cause g m
  unfolding loses_at
  kind n l e =
      let a = ends_at 9296 base last g (m - 23) in
      let b = eighth_ends 9296 base last g (m - 23) in
      by_test (markers_lose_at 9296 base last g (m - 23))
      (λ t. inl ((markers_are 9296 base last g (m - 23) (lit≤ tt)).loses_only t))
      (λ t. let w = and_both a b (sym (rw t refl) ∙ e) in by-period n l w.0 w.1)

  -- the second missed marker in a row
  markers-lose : LostByMarkers 9296 g (m - 23) → loses_at 9296 base last g (m - 23) ≡ true
  unfolding loses_at
  markers-lose x = rw ((markers_are 9296 base last g (m - 23) (lit≤ tt)).loses x) refl

  -- the end of an eighth other period in a row
  eighth_loses : (p j : ℕ) → Eighth 9296 (size_at g) p j → suc m ≡ end_of 9296 j → loses_at 9296 base last g (m - 23) ≡ true
  unfolding loses_at ends_at end_of
  eighth_loses p j x e =
      let q : (m - 23) / 9296 ≡ j = omega (arith, e) in
      let n : (m - 23) % 9296 ≡ 9295 = omega (arith, e) in
      let v = found-eighth 9296 base last g (m - 23) p (subst (Eighth 9296 (size_at g) p) (sym q) x) in
      rw (eq-eqb ((m - 23) % 9296) 9295 n, v) (or_right (markers_lose_at 9296 base last g (m - 23)) true refl)

module _ (s : System) (h : History) (t : Tied s h) where
  grown : (x : Input) → length (with_symbol h x) ≡ suc (length h.pushes)
  unfolding with_symbol
  grown x = grown-length h.base h.last h.pushes (push_of h x)

  -- a loss is that of one more symbol
  pub lost-grows : (c : Call) → loses_by h c ≡ true → length (stretch_with h c) ≡ suc (length h.pushes)
  unfolding loses_by stretch_with
  lost-grows (symbol x a b soft) e =
      let z = eqb (refusal_in h (symbol x a b soft)) 0 in
      rw (if_yes z (with_symbol h x) h.pushes (and_both z (loses_with h x) e).0) (grown x)
  lost-grows (points bits ps k) e = absurd (never (sym e))
  lost-grows (taps ts frame) e = absurd (never (sym e))
  lost-grows (opens frame) e = absurd (never (sym e))
  lost-grows ends e = absurd (never (sym e))
  lost-grows (restarts at a) e = absurd (never (sym e))

  pub causes : (c : Call) → loses_by h c ≡ true → Cause (stretch_with h c) (length h.pushes)
  unfolding loses_by stretch_with
  causes (symbol x a b soft) e =
      let z = eqb (refusal_in h (symbol x a b soft)) 0 in
      let w = and_both z (loses_with h x) e in
      let l = is_lost_lem s h t x soft w.1 in
      rw (if_yes z (with_symbol h x) h.pushes w.0) (kind h.base h.last (with_symbol h x) (length h.pushes) (grown x) l.0 l.1)
  causes (points bits ps k) e = absurd (never (sym e))
  causes (taps ts frame) e = absurd (never (sym e))
  causes (opens frame) e = absurd (never (sym e))
  causes ends e = absurd (never (sym e))
  causes (restarts at a) e = absurd (never (sym e))

  more : {n : ℕ} → n ≡ suc n → ⊥
  more e = omega (arith, e)

  -- what loses at the last position of the stretch makes the call lose
  loses-here : (c : Call) → length (stretch_with h c) ≡ suc (length h.pushes) → 23 ≤ length h.pushes →
      loses_at 9296 h.base h.last (stretch_with h c) (length h.pushes - 23) ≡ true → loses_by h c ≡ true
  unfolding loses_by stretch_with
  loses-here (symbol x a b soft) n l d =
      let z = eqb (refusal_in h (symbol x a b soft)) 0 in
      by_test z
      (λ u. rw u (loses-with x l (subst (λ (ps : List Push). loses_at 9296 h.base h.last ps (length h.pushes - 23) ≡ true) (if_yes z (with_symbol h x) h.pushes u) d)))
      (λ u. absurd (more (ap length (sym (if_no z (with_symbol h x) h.pushes u)) ∙ n)))
    where
      loses-with : (x : Input) → 23 ≤ length h.pushes → loses_at 9296 h.base h.last (with_symbol h x) (length h.pushes - 23) ≡ true → loses_with h x ≡ true
      loses-with x l d = unfold loses_with in rw (le-leb 23 (length h.pushes) l, d)
  loses-here (points bits ps k) n l d = absurd (more n)
  loses-here (taps ts frame) n l d = absurd (more n)
  loses-here (opens frame) n l d = absurd (more n)
  loses-here ends n l d = absurd (more n)
  loses-here (restarts at a) n l d = absurd (more n)

  pub markers-lost : (c : Call) → length (stretch_with h c) ≡ suc (length h.pushes) → LostByMarkers 9296 (stretch_with h c) (length h.pushes - 23) → loses_by h c ≡ true
  markers-lost c n x =
      loses-here c n (omega (arith, x.reading)) (markers-lose h.base h.last (stretch_with h c) (length h.pushes) x)

  pub eighth-lost : (c : Call) → length (stretch_with h c) ≡ suc (length h.pushes) → (p j : ℕ) → Eighth 9296 (size_at (stretch_with h c)) p j → length (stretch_with h c) ≡ end_of 9296 j → loses_by h c ≡ true
  eighth-lost c n p j x e =
      let d = sym n ∙ e in
      loses-here c n (ends-late j d) (eighth_loses h.base h.last (stretch_with h c) (length h.pushes) p j x d)
    where
      ends-late : (j : ℕ) → suc (length h.pushes) ≡ end_of 9296 j → 23 ≤ length h.pushes
      ends-late j e = unfold end_of in omega (arith, e)
