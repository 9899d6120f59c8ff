-- THE TIE: by induction on the pushes, a sync stands as they say until one loses. Assumes nothing.
use Rattle.std.specs.Prelude.{Option, None}
use Rattle.sync_heads.specs.declared.FrameHead.{FrameHead}
use Prim.Native.Nat.{◌%◌, ◌+◌, ◌-◌, ◌/◌, ◌<◌, ◌≤◌, suc, zero, ℕ}
use Rattle.laws.proofs.Tests.{by_test}
use Rattle.laws.specs.Choice.{if_no, if_yes}
use Rattle.sync.specs.Sync.{kept_window, started_sync, stored_of, symbol_of, window_after}
use Rattle.sync_corr.specs.Correlate.{both_of}
use Rattle.sync_history.specs.Claims.{lock_to}
use Rattle.sync_history.specs.History.{acc_after, figures_to}
use Rattle.sync_lock.specs.Period.{counted_of}
use Rattle.sync_lock.specs.declared.Tally.{Tally}
use Rattle.sync_step.specs.Step.{early_of, kept_of, late_of, place_of, started_of, step_of}
use Rattle.sync_step.specs.declared.Run.{Run}
use Rattle.sync_step.specs.declared.Step.{Step}
use Rattle.sync_tie.proofs.Places.{next_end, next_in_lem, place-less}
use Rattle.sync_tie.proofs.Step.{ends-place, inside-place, kept_step}
use Rattle.sync_tie.proofs.Track.{Follows, counted_next, last_at, late_is, late-step, level_at, periods_at, place-now, run_at, running}
use Rattle.sync_tie.proofs.Window.{window_next, window_none}
use Rattle.sync_tie.specs.Pushes.{Push, no_push, size_at}
use Rattle.sync_tie.proofs.Story.{ends_at, heard_to, lock_at, loses_at}
use Rattle.sync_tie.specs.Tie.{Held, begun, push_on, pushes, step_on}
use Rattle.sync_tie.proofs.Story.{Kept}
use borrow.Author.Tests.{eqb-false, eqb-true, le-ltb, lt-ltb, ltb-false, ltb-true}
use lib.Dec.{eqb, ltb}
use lib.IntN.{ℤ}
use lib.ListN.{get_or, get_or-replicate, length, length-replicate, length-set, set}
use lib.Seq.{get_or-set_other, get_or-set_same}
use mathlib.Core.Bool.{false}
use mathlib.Core.List.{List}
use mathlib.Core.Path.{◌∙◌, ◌≡◌, ap, refl, subst, sym}
use native.Mathlib.Nat.{zero-div, zero-mod}
use native.Mathlib.Numerals.{add-one}
use native.Mathlib.Omega.{arith}

module _ (n base : ℕ) (last : Option FrameHead) (h : List Push) where
  -- ---- the periods of a place, with one position more
  periods-here : (c : ℕ) → 0 < n → periods_at n base last h (suc c) (c % n) ≡ suc (c / n)
  unfolding periods_at
  periods-here c z =
      by_test (ends_at n base last h c)
      (λ e. let d = next_end n c z (ends-place n base last h c e) in if_no (ltb (c % n) (suc c % n)) (suc (suc c / n)) (suc c / n) (le-ltb (c % n) (suc c % n) (omega (arith, d.1))) ∙ d.0)
      (λ e. let d = next_in_lem n c z (inside-place n base last h c z e) in if_yes (ltb (c % n) (suc c % n)) (suc (suc c / n)) (suc c / n) (lt-ltb (c % n) (suc c % n) (omega (arith, d.1))) ∙ ap suc d.0)

  periods-there : (c i : ℕ) → 0 < n → i < n → (i ≡ c % n → ⊥) → periods_at n base last h (suc c) i ≡ periods_at n base last h c i
  unfolding periods_at
  periods-there c i z l ne =
      by_test (ends_at n base last h c)
      (λ e.
      let p = ends-place n base last h c e in
      let d = next_end n c z p in
      if_no (ltb i (suc c % n)) (suc (suc c / n)) (suc c / n) (le-ltb i (suc c % n) (omega (arith, d.1)))
      ∙ d.0
      ∙ sym (if_yes (ltb i (c % n)) (suc (c / n)) (c / n) (lt-ltb i (c % n) (omega (arith, p, ne)))))
      (λ e.
      let d = next_in_lem n c z (inside-place n base last h c z e) in
      by_test (ltb i (c % n))
      (λ b.
      if_yes (ltb i (suc c % n)) (suc (suc c / n)) (suc c / n) (lt-ltb i (suc c % n) (omega (arith, d.1, ltb-true i (c % n) b)))
      ∙ ap suc d.0
      ∙ sym (if_yes (ltb i (c % n)) (suc (c / n)) (c / n) b))
      (λ b.
      if_no (ltb i (suc c % n)) (suc (suc c / n)) (suc c / n) (le-ltb i (suc c % n) (omega (arith, d.1, ltb-false i (c % n) b, ne)))
      ∙ d.0
      ∙ sym (if_no (ltb i (c % n)) (suc (c / n)) (c / n) b)))

  -- ---- one push more
  pub pushed-is : (x : Held) (p : Push) (st : Step) → step_on n x p ≡ st →
      push_on n x p
      ≡ record {
        sync = record { win = kept_window st.stores (window_after x.sync.win p.i p.q); run = st.run };
        acc = stored_of st.stores (place_of n x.sync.run.t) x.acc;
      }
  unfolding push_on
  pushed-is x p st e = rw e

  pub early-step : (m : ℕ) (x : Held) (p : Push) → m < 23 → Follows n base last h m 0 x → step_on n x p ≡ early_of x.sync.run
  unfolding symbol_of step_of
  early-step m x p l f =
      let r = x.sync.run in
      let t : r.t ≡ m = ap (λ (u : Run). u.t) f.run in
      let b = both_of (window_after x.sync.win p.i p.q) p.f p.w in
      if_yes (ltb r.t 23) (early_of r) (late_of n r b (get_or x.acc (place_of n r.t) 0)) (lt-ltb r.t 23 (omega (arith, t)))

  -- one of the first 23
  early : (m : ℕ) (x : Held) (p : Push) → m < 23 → m < length h → get_or h m no_push ≡ p → Follows n base last h m 0 x → Follows n base last h (suc m) 0 (push_on n x p)
  unfolding early_of stored_of kept_window
  early m x p l k e f =
      let r = x.sync.run in
      rw (pushed-is x p (early_of r) (early-step m x p l f))
      (record {
        win = ap (λ (u : List ℤ). window_after u p.i p.q) f.win ∙ window_next h m p k e;
        run =
            ap (λ (u : Run). record { base = u.base; t = u.t + 1; tally = r.tally; lock = u.lock; stage = u.stage; course = u.course }) f.run
            ∙ ap (λ (j : ℕ). run_at n base last h j 0 r.tally) (add-one m);
        long = f.long;
        accs = f.accs;
        tally = f.tally;
      })

  -- one that completes position c and does not lose
  late : (c : ℕ) (x : Held) (p : Push) → 0 < n → c + 23 < length h → get_or h (c + 23) no_push ≡ p → loses_at n base last h c ≡ false → Follows n base last h (c + 23) c x →
      Follows n base last h (suc (c + 23)) (suc c) (push_on n x p)
  unfolding kept_of stored_of kept_window
  late c x p z l e k f =
      let y = x.sync.run.tally in
      let w = kept_step n base last h c y z f.tally k in
      let v = counted_of y (c % n) (level_at n base last h c) in
      let st = kept_of (run_at n base last h (c + 23 + 1) (suc c) v) (last_at n base last h c) w.0 in
      let s : step_on n x p ≡ st = late-step n base last h c x p z l e f ∙ late_is n base last h c y ∙ w.1 in
      let at : place_of n x.sync.run.t ≡ c % n = ap (λ (u : Run). place_of n u.t) f.run ∙ place-now n base last h c in
      rw (pushed-is x p st s, at)
      (record {
        win = ap (λ (u : List ℤ). window_after u p.i p.q) f.win ∙ window_next h (c + 23) p l e;
        run = ap (λ (j : ℕ). run_at n base last h j (suc c) v) (add-one (c + 23));
        long = length-set x.acc (c % n) (level_at n base last h c) ∙ f.long;
        accs = λ i b. stored c x i z b f;
        tally = λ d. grown c y z f.tally d;
      })
    where
      stored : (c : ℕ) (x : Held) (i : ℕ) → 0 < n → i < n → Follows n base last h (c + 23) c x →
          get_or (set x.acc (c % n) (level_at n base last h c)) i 0 ≡ acc_after n (size_at h) 0 i (periods_at n base last h (suc c) i)
      stored c x i z b f =
          by_test (eqb i (c % n))
          (λ t.
          let q : i ≡ c % n = eqb-true i (c % n) t in
          rw q (get_or-set_same x.acc (c % n) (level_at n base last h c) 0 (omega (arith, f.long, place-less n c z)) ∙ ap (acc_after n (size_at h) 0 (c % n)) (sym (periods-here c z))))
          (λ t.
          let q = eqb-false i (c % n) t in
          get_or-set_other x.acc (c % n) i (level_at n base last h c) 0 q ∙ f.accs i b ∙ ap (acc_after n (size_at h) 0 i) (sym (periods-there c i z b q)))

      grown : (c : ℕ) (y : Tally) → 0 < n → (0 < c % n → y ≡ figures_to (running n base last h (c / n)) (c % n)) → 0 < suc c % n →
          counted_of y (c % n) (level_at n base last h c) ≡ figures_to (running n base last h (suc c / n)) (suc c % n)
      grown c y z t d =
          by_test (ends_at n base last h c)
          (λ e. absurd (omega (arith, (next_end n c z (ends-place n base last h c e)).1, d)))
          (λ e. let g = next_in_lem n c z (inside-place n base last h c z e) in rw (g.0, g.1) (counted_next n base last h c y t))

  -- ---- all pushes
  start : 0 < n → Follows n base last h 0 0 (begun n base last)
  unfolding started_sync started_of lock_at lock_to heard_to periods_at acc_after
  start z =
      let d = zero-div n in
      record {
        win = window_none h;
        run = rw d;
        long = length-replicate {A = ℕ} n 0;
        accs = λ i b. get_or-replicate {A = ℕ} n i 0 0 b ∙ none i;
        tally = λ e. absurd (omega (arith, zero-mod n, e));
      }
    where
      none : (i : ℕ) → 0 ≡ acc_after n (size_at h) 0 i (periods_at n base last h 0 i)
      none i = let e = if_no (ltb i (0 % n)) (suc (0 / n)) (0 / n) (le-ltb i (0 % n) (omega (arith, zero-mod n))) ∙ zero-div n in rw e

  pub follows : (m : ℕ) → 0 < n → m ≤ length h → Kept n base last h m → Follows n base last h m (m - 23) (pushes n (begun n base last) h m)
  unfolding pushes
  follows zero z l k = start z
  follows (suc m) z l k =
      let x = pushes n (begun n base last) h m in
      let p = get_or h m no_push in
      let f : Follows n base last h m (m - 23) x = follows m z (omega arith) (λ c b. k c (omega arith)) in
      by_test (ltb m 23)
      (λ t.
      let b = ltb-true m 23 t in
      let e : m - 23 ≡ 0 = omega arith in
      let e' : suc m - 23 ≡ 0 = omega arith in
      rw e' (early m x p b (omega arith) refl (rw e at f)))
      (λ t.
      let b = ltb-false m 23 t in
      let c = m - 23 in
      let e : m ≡ m - 23 + 23 = omega arith in
      let e' : suc m - 23 ≡ suc (m - 23) = omega arith in
      let g : Follows n base last h (m - 23 + 23) (m - 23) x = subst (λ (j : ℕ). Follows n base last h j (m - 23) x) e f in
      let q : get_or h (m - 23 + 23) no_push ≡ p = ap (λ (j : ℕ). get_or h j no_push) (sym e) in
      let u = late (m - 23) x p z (omega arith) q (k (m - 23) (omega arith)) g in
      rw e' (subst (λ (j : ℕ). Follows n base last h (suc j) (suc (m - 23)) (push_on n x p)) (sym e) u))
