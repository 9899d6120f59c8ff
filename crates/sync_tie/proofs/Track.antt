-- A sync that has taken m pushes without a loss, c of them completing a position, stands as the pushes say. Assumes nothing.
use Rattle.sync_heads.specs.declared.FrameHead.{FrameHead}
use Rattle.std.specs.Prelude.{None, Option}
use Rattle.laws.specs.Choice as choice
use Prim.Native.Nat.{◌%◌, ◌+◌, ◌-◌, ◌/◌, ◌<◌, suc, ℕ}
use Rattle.laws.proofs.Tests.{by_test}
use Rattle.laws.specs.Choice.{if_no, if_yes, when◌then◌else◌}
use Rattle.sync.specs.Sync.{symbol_of, window_after}
use Rattle.sync_corr.specs.Correlate.{both_of, size_of}
use Rattle.sync_corr.specs.declared.Both.{Both}
use Rattle.sync_heads.specs.Heads.{read_of}
use Rattle.sync_heads.specs.declared.Taken.{Taken}
use Rattle.sync_history.specs.History.{acc_after, figures_to}
use Rattle.sync_lock.specs.Period.{added_of, counted_of, leak_of, no_tally}
use Rattle.sync_lock.specs.declared.Tally.{Tally}
use Rattle.sync_step.specs.Events.{heads_of}
use Rattle.sync_step.specs.Step.{after_of, early_of, ended_of, kept_of, late_of, lost_at_end, lost_of, place_of, reading_of, step_of, taken_of}
use Rattle.sync_step.specs.declared.LastCorr.{LastCorr}
use Rattle.sync_step.specs.declared.Run.{Run}
use Rattle.sync_tie.proofs.Places.{place-less, whole}
use Rattle.sync_tie.proofs.Window.{window_at_lem, window_next, window_to}
use Rattle.sync_tie.specs.Pushes.{Push, both_at, flat, no_push, size_at}
use Rattle.sync_tie.proofs.Story.{Heard, ends_at, heard_to, lock_at, reading_at, reads_at, record_at, taken_at}
use Rattle.sync_tie.specs.Tie.{Held, step_on}
use borrow.Author.Tests.{eqb-false, eqb-true, le-ltb}
use lib.Dec.{eqb, ltb}
use lib.IntN.{ℤ}
use lib.ListN.{drop, get_or, length, take}
use mathlib.Core.Bool.{Bool, false, true}
use mathlib.Core.List.{List}
use mathlib.Core.Path.{◌∙◌, ◌≡◌, ap, refl, sym}
use native.Mathlib.Nat.{le_refl}
use native.Mathlib.Omega.{arith}

-- what the readings come to with one position more is what it was taken for
heard_go : (t : Bool) (k : Taken) (e : Heard) →
    (when t then record { stage = k.stage; course = k.course } else e)
    ≡ record {
      stage = (when t then k else record { lost = false; stage = e.stage; course = e.course; first = None; second = None }).stage;
      course = (when t then k else record { lost = false; stage = e.stage; course = e.course; first = None; second = None }).course;
    }
unfolding choice.when◌then◌else◌
heard_go true k e = refl
heard_go false k e = refl

late_eq : (n : ℕ) {r r' : Run} {b b' : Both} {a a' : ℕ} → r ≡ r' → b ≡ b' → a ≡ a' → late_of n r b a ≡ late_of n r' b' a'
late_eq n p q s = rw (p, q, s)

module _ (n base : ℕ) (last : Option FrameHead) (h : List Push) where
  -- the accumulators: of those places that the running period has passed, one period more
  unfoldable pub periods_at : ℕ → ℕ → ℕ
  periods_at c i = when ltb i (c % n) then suc (c / n) else c / n

  abbrev pub level_at : ℕ → ℕ
  level_at c = acc_after n (size_at h) 0 (c % n) (suc (c / n))

  abbrev pub running : ℕ → ℕ → ℕ
  running k i = acc_after n (size_at h) 0 i (suc k)

  -- all but the figures
  abbrev pub run_at : ℕ → ℕ → Tally → Run
  run_at m c y =
      record {
        base = base;
        t = m;
        tally = y;
        lock = lock_at n base last h c;
        stage = (heard_to n base last h c).stage;
        course = (heard_to n base last h c).course;
      }

  pub record Follows (m c : ℕ) (x : Held) : Type 0 where
    pub win : x.sync.win ≡ window_to h m
    pub run : x.sync.run ≡ run_at m c x.sync.run.tally
    pub long : length x.acc ≡ n
    pub accs : (i : ℕ) → i < n → get_or x.acc i 0 ≡ acc_after n (size_at h) 0 i (periods_at c i)
    pub tally : 0 < c % n → x.sync.run.tally ≡ figures_to (running (c / n)) (c % n)

  -- ---- the figures with one position more
  pub counted_next : (c : ℕ) (y : Tally) → (0 < c % n → y ≡ figures_to (running (c / n)) (c % n)) → counted_of y (c % n) (level_at c) ≡ figures_to (running (c / n)) (suc (c % n))
  unfolding counted_of figures_to
  counted_next c y t =
      by_test (eqb (c % n) 0)
      (λ e.
      let z : c % n ≡ 0 = eqb-true (c % n) 0 e in
      if_yes (eqb (c % n) 0) (added_of no_tally (c % n) (level_at c)) (added_of y (c % n) (level_at c)) e
      ∙ ap (λ (u : Tally). added_of u (c % n) (level_at c)) (sym (rw z)))
      (λ e.
      let z = eqb-false (c % n) 0 e in
      if_no (eqb (c % n) 0) (added_of no_tally (c % n) (level_at c)) (added_of y (c % n) (level_at c)) e
      ∙ ap (λ (u : Tally). added_of u (c % n) (level_at c)) (t (omega arith)))

  pub heard-next : (c : ℕ) → heard_to n base last h (suc c) ≡ record { stage = (taken_at n base last h c).stage; course = (taken_at n base last h c).course }
  unfolding heard_to taken_at
  heard-next c =
      let e = heard_to n base last h c in
      heard_go (reads_at n base last h c) (read_of n e.stage e.course (reading_at n base last h c)) e

  -- ---- a position's correlations, place and accumulator, as the step has them
  both-now : (c : ℕ) (x : Held) (p : Push) → c + 23 < length h → get_or h (c + 23) no_push ≡ p → Follows (c + 23) c x →
      both_of (window_after x.sync.win p.i p.q) p.f p.w ≡ both_at h c
  unfolding both_at
  both-now c x p l e f =
      let g : suc (c + 23) ≡ c + 24 = omega arith in
      let v : window_after x.sync.win p.i p.q ≡ flat (take 24 (drop c h)) = ap (λ (u : List ℤ). window_after u p.i p.q) f.win ∙ window_next h (c + 23) p l e ∙ rw g (window_at_lem h c) in
      rw (v, e)

  pub place-now : (c : ℕ) → place_of n (c + 23) ≡ c % n
  unfolding place_of
  place-now c = let e : c + 23 - 23 ≡ c = omega arith in rw e

  acc-now : (c : ℕ) (x : Held) → 0 < n → Follows (c + 23) c x → get_or x.acc (c % n) 0 ≡ acc_after n (size_at h) 0 (c % n) (c / n)
  unfolding periods_at
  acc-now c x p f = f.accs (c % n) (place-less n c p) ∙ ap (acc_after n (size_at h) 0 (c % n)) (if_no (ltb (c % n) (c % n)) (suc (c / n)) (c / n) (le-ltb (c % n) (c % n) (le_refl (c % n))))

  level-now : (c : ℕ) → leak_of (acc_after n (size_at h) 0 (c % n) (c / n)) (size_of (both_at h c)) ≡ level_at c
  unfolding acc_after size_at
  level-now c = rw (whole n c)

  taken-now : (c : ℕ) (y : Tally) → taken_of n (run_at (c + 23) c y) (c % n) (both_at h c) ≡ taken_at n base last h c
  unfolding taken_of taken_at reads_at reading_of reading_at
  taken-now c y = let e : base + (c + 23) - 23 ≡ base + c = omega arith in rw e

  -- ---- the step of a push that completes position c
  pub late-step : (c : ℕ) (x : Held) (p : Push) → 0 < n → c + 23 < length h → get_or h (c + 23) no_push ≡ p → Follows (c + 23) c x →
      step_on n x p ≡ late_of n (run_at (c + 23) c x.sync.run.tally) (both_at h c) (acc_after n (size_at h) 0 (c % n) (c / n))
  unfolding symbol_of step_of
  late-step c x p z l e f =
      let r = x.sync.run in
      let b = both_of (window_after x.sync.win p.i p.q) p.f p.w in
      let t : r.t ≡ c + 23 = ap (λ (u : Run). u.t) f.run in
      let a : get_or x.acc (place_of n r.t) 0 ≡ acc_after n (size_at h) 0 (c % n) (c / n) = ap (λ k. get_or x.acc (place_of n k) 0) t ∙ ap (λ k. get_or x.acc k 0) (place-now c) ∙ acc-now c x z f in
      if_no (ltb r.t 23) (early_of r) (late_of n r b (get_or x.acc (place_of n r.t) 0)) (le-ltb r.t 23 (omega (arith, t)))
      ∙ late_eq n f.run (both-now c x p l e f) a

  -- the run after it, if nothing was lost
  abbrev pub after_at : ℕ → Tally → Run
  after_at c y =
      record {
        base = base;
        t = c + 23 + 1;
        tally = counted_of y (c % n) (level_at c);
        lock = lock_at n base last h c;
        stage = (taken_at n base last h c).stage;
        course = (taken_at n base last h c).course;
      }

  abbrev pub last_at : ℕ → LastCorr
  last_at c = record { both = both_at h c; level = level_at c }

  -- its four ends
  pub late_is : (c : ℕ) (y : Tally) →
      late_of n (run_at (c + 23) c y) (both_at h c) (acc_after n (size_at h) 0 (c % n) (c / n))
      ≡ (when (taken_at n base last h c).lost
      then when ends_at n base last h c
      then lost_at_end (base + (c + 23) + 1) (record_at n base last h c) (heads_of (taken_at n base last h c))
      else lost_of (base + (c + 23) + 1) (record_at n base last h c) (heads_of (taken_at n base last h c))
      else when ends_at n base last h c
      then ended_of n (after_at c y) (last_at c) (heads_of (taken_at n base last h c))
      else kept_of (after_at c y) (last_at c) (heads_of (taken_at n base last h c)))
  unfolding late_of after_of ends_at record_at
  late_is c y = rw (place-now c, taken-now c y, level-now c)
