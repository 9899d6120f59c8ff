-- What the step makes of a sync that stands as the pushes say: its events, and the sync after it. Assumes nothing.
use Rattle.std.specs.Prelude.{Option}
use Rattle.sync_heads.specs.declared.FrameHead.{FrameHead}
use Prim.Native.Nat.{◌%◌, ◌+◌, ◌-◌, ◌/◌, ◌<◌, suc, ℕ}
use Rattle.laws.proofs.Tests.{by_test, if_ap, never}
use Rattle.laws.specs.Choice.{if_no, if_yes, when◌then◌else◌}
use Rattle.sync_history.specs.Claims.{lock_to}
use Rattle.sync_history.specs.History.{figures, figures_to}
use Rattle.sync_lock.specs.Period.{counted_of, no_tally}
use Rattle.sync_lock.specs.declared.Tally.{Tally}
use Rattle.sync_step.specs.Events.{heads_of, no_corr, then_of}
use Rattle.sync_step.specs.Step.{ended_of, kept_of, lost_at_end, lost_of, started_of, stats_of, with_lock}
use Rattle.sync_step.specs.declared.Event.TheVariants.{Lost, Period}
use Rattle.sync_step.specs.declared.Events.{Events}
use Rattle.sync_step.specs.declared.Run.{Run}
use Rattle.sync_step.specs.declared.Step.{Step}
use Rattle.sync_step.specs.declared.Stores.TheVariants.{Zeros}
use Rattle.sync_tie.proofs.Places.{next_end, next_in_lem, place-less}
use Rattle.sync_tie.proofs.Track.{after_at, counted_next, heard-next, last_at, level_at, run_at, running}
use Rattle.sync_tie.specs.Pushes.{Push, size_at}
use Rattle.sync_tie.proofs.Story.{ends_at, lock_at, loses_at, period_loses, record_at, stats_at, taken_at, told_at}
use borrow.Author.Tests.{eqb-false, eqb-true}
use mathlib.Core.Bool.{Bool, false, true}
use mathlib.Core.List.{List}
use mathlib.Core.Path.{◌∙◌, ◌≡◌, ap, sym}
use native.Mathlib.Omega.{arith}

module _ (n base : ℕ) (last : Option FrameHead) (h : List Push) where
  -- the four ends of a step
  abbrev heads : ℕ → Events
  heads c = heads_of (taken_at n base last h c)

  abbrev lost_end : ℕ → Step
  lost_end c = lost_at_end (base + (c + 23) + 1) (record_at n base last h c) (heads c)

  abbrev lost_in : ℕ → Step
  lost_in c = lost_of (base + (c + 23) + 1) (record_at n base last h c) (heads c)

  abbrev end_step : ℕ → Tally → Step
  end_step c y = ended_of n (after_at n base last h c y) (last_at n base last h c) (heads c)

  abbrev in_step : ℕ → Tally → Step
  in_step c y = kept_of (after_at n base last h c y) (last_at n base last h c) (heads c)

  abbrev pub four : ℕ → Tally → Step
  four c y =
      when (taken_at n base last h c).lost
      then when ends_at n base last h c then lost_end c else lost_in c
      else when ends_at n base last h c then end_step c y else in_step c y

  abbrev Running : ℕ → Tally → Type 0
  Running c y = 0 < c % n → y ≡ figures_to (running n base last h (c / n)) (c % n)

  pub ends-place : (c : ℕ) → ends_at n base last h c ≡ true → c % n ≡ n - 1
  unfolding ends_at
  ends-place c e = eqb-true (c % n) (n - 1) e

  pub inside-place : (c : ℕ) → 0 < n → ends_at n base last h c ≡ false → suc (c % n) < n
  unfolding ends_at
  inside-place c z e = omega (arith, eqb-false (c % n) (n - 1) e, place-less n c z)

  -- at a period's end the figures are whole
  whole-figures : (c : ℕ) (y : Tally) → 0 < n → Running c y → ends_at n base last h c ≡ true → counted_of y (c % n) (level_at n base last h c) ≡ figures n (size_at h) (c / n)
  unfolding figures
  whole-figures c y z t e =
      let g : suc (c % n) ≡ n = omega (arith, ends-place c e, z) in
      counted_next n base last h c y t ∙ ap (figures_to (running n base last h (c / n))) g

  -- ---- the period's end
  ended_is : (c : ℕ) (y : Tally) → 0 < n → Running c y → ends_at n base last h c ≡ true →
      ended_of n (after_at n base last h c y) (last_at n base last h c) (heads_of (taken_at n base last h c))
      ≡ (when period_loses n base last h c
      then lost_of (base + (c + 23 + 1)) (record_at n base last h c) (heads_of (taken_at n base last h c))
      else kept_of (run_at n base last h (c + 23 + 1) (suc c) (counted_of y (c % n) (level_at n base last h c))) (last_at n base last h c) (then_of (heads_of (taken_at n base last h c)) (Period (stats_at n base last h c))))
  unfolding ended_of period_loses record_at with_lock stats_of stats_at lock_at lock_to
  ended_is c y z t e =
      let d = next_end n c z (ends-place c e) in
      rw (whole-figures c y z t e, d.0, heard-next n base last h c)

  -- ---- which of them
  module _ (c : ℕ) (y : Tally) where
    abbrev Lost? : Bool
    Lost? = (taken_at n base last h c).lost

    abbrev Ends? : Bool
    Ends? = ends_at n base last h c

    is-lost-end : Lost? ≡ true → Ends? ≡ true → four c y ≡ lost_end c
    is-lost-end a b =
        if_yes Lost? (when Ends? then lost_end c else lost_in c) (when Ends? then end_step c y else in_step c y) a ∙ if_yes Ends? (lost_end c) (lost_in c) b

    is-lost-in : Lost? ≡ true → Ends? ≡ false → four c y ≡ lost_in c
    is-lost-in a b =
        if_yes Lost? (when Ends? then lost_end c else lost_in c) (when Ends? then end_step c y else in_step c y) a ∙ if_no Ends? (lost_end c) (lost_in c) b

    is-end : Lost? ≡ false → Ends? ≡ true → four c y ≡ end_step c y
    is-end a b =
        if_no Lost? (when Ends? then lost_end c else lost_in c) (when Ends? then end_step c y else in_step c y) a ∙ if_yes Ends? (end_step c y) (in_step c y) b

    is-in : Lost? ≡ false → Ends? ≡ false → four c y ≡ in_step c y
    is-in a b =
        if_no Lost? (when Ends? then lost_end c else lost_in c) (when Ends? then end_step c y else in_step c y) a ∙ if_no Ends? (end_step c y) (in_step c y) b

  abbrev told_lost : ℕ → Events
  told_lost c = then_of (heads c) (Lost (base + c + 24))

  abbrev told_lost_end : ℕ → Events
  told_lost_end c = then_of (told_lost c) (Period (stats_of (started_of (base + c + 24) (taken_at n base last h c).course.last)))

  abbrev told_period : ℕ → Events
  told_period c = then_of (heads c) (Period (stats_at n base last h c))

  -- ---- events
  module _ (c : ℕ) where
    abbrev Loses? : Bool
    Loses? = period_loses n base last h c

    told-lost-end : Lost? c no_tally ≡ true → Ends? c no_tally ≡ true → told_at n base last h c ≡ told_lost_end c
    unfolding told_at
    told-lost-end a b =
        if_yes (Lost? c no_tally) (when Ends? c no_tally then told_lost_end c else told_lost c) (when Ends? c no_tally then (when Loses? then told_lost c else told_period c) else heads c) a
        ∙ if_yes (Ends? c no_tally) (told_lost_end c) (told_lost c) b

    told-lost-in : Lost? c no_tally ≡ true → Ends? c no_tally ≡ false → told_at n base last h c ≡ told_lost c
    unfolding told_at
    told-lost-in a b =
        if_yes (Lost? c no_tally) (when Ends? c no_tally then told_lost_end c else told_lost c) (when Ends? c no_tally then (when Loses? then told_lost c else told_period c) else heads c) a
        ∙ if_no (Ends? c no_tally) (told_lost_end c) (told_lost c) b

    told-end : Lost? c no_tally ≡ false → Ends? c no_tally ≡ true → told_at n base last h c ≡ (when Loses? then told_lost c else told_period c)
    unfolding told_at
    told-end a b =
        if_no (Lost? c no_tally) (when Ends? c no_tally then told_lost_end c else told_lost c) (when Ends? c no_tally then (when Loses? then told_lost c else told_period c) else heads c) a
        ∙ if_yes (Ends? c no_tally) (when Loses? then told_lost c else told_period c) (heads c) b

    told_in : Lost? c no_tally ≡ false → Ends? c no_tally ≡ false → told_at n base last h c ≡ heads c
    unfolding told_at
    told_in a b =
        if_no (Lost? c no_tally) (when Ends? c no_tally then told_lost_end c else told_lost c) (when Ends? c no_tally then (when Loses? then told_lost c else told_period c) else heads c) a
        ∙ if_no (Ends? c no_tally) (when Loses? then told_lost c else told_period c) (heads c) b

  pub events-are : (c : ℕ) (y : Tally) → 0 < n → Running c y → (four c y).events ≡ told_at n base last h c
  unfolding lost_at_end lost_of record_at kept_of
  events-are c y z t =
      let g : base + (c + 23) + 1 ≡ base + c + 24 = omega arith in
      let g' : base + (c + 23 + 1) ≡ base + c + 24 = omega arith in
      by_test (Lost? c y)
      (λ a. by_test (Ends? c y)
      (λ b. ap (λ (s : Step). s.events) (is-lost-end c y a b) ∙ rw g (sym (told-lost-end c a b)))
      (λ b. ap (λ (s : Step). s.events) (is-lost-in c y a b) ∙ rw g (sym (told-lost-in c a b))))
      (λ a. by_test (Ends? c y)
      (λ b.
      let e = ap (λ (s : Step). s.events) (is-end c y a b ∙ ended_is c y z t b) in
      let w = if_ap (λ (s : Step). s.events) (Loses? c) (lost_of (base + (c + 23 + 1)) (record_at n base last h c) (heads c)) (kept_of (run_at n base last h (c + 23 + 1) (suc c) (counted_of y (c % n) (level_at n base last h c))) (last_at n base last h c) (told_period c)) in
      e ∙ w ∙ rw g' (sym (told-end c a b)))
      (λ b. ap (λ (s : Step). s.events) (is-in c y a b) ∙ sym (told_in c a b)))

  -- ---- no loss: the run stands as the pushes say of one position more
  keeps : (c : ℕ) → loses_at n base last h c ≡ false → (Lost? c no_tally ≡ false) × (Ends? c no_tally ≡ true → Loses? c ≡ false)
  unfolding loses_at
  keeps c e =
      by_test (Lost? c no_tally)
      (λ a. absurd (never (sym (if_yes (Lost? c no_tally) true (when Ends? c no_tally then Loses? c else false) a) ∙ e)))
      (λ a.
      let f = sym (if_no (Lost? c no_tally) true (when Ends? c no_tally then Loses? c else false) a) ∙ e in
      (a, λ b. sym (if_yes (Ends? c no_tally) (Loses? c) false b) ∙ f))

  after-in : (c : ℕ) (y : Tally) → 0 < n → suc (c % n) < n →
      after_at n base last h c y ≡ run_at n base last h (c + 23 + 1) (suc c) (counted_of y (c % n) (level_at n base last h c))
  unfolding lock_at
  after-in c y z i = rw ((next_in_lem n c z i).0, heard-next n base last h c)

  pub kept_step : (c : ℕ) (y : Tally) → 0 < n → Running c y → loses_at n base last h c ≡ false →
      (es : Events) × (four c y ≡ kept_of (run_at n base last h (c + 23 + 1) (suc c) (counted_of y (c % n) (level_at n base last h c))) (last_at n base last h c) es)
  kept_step c y z t e =
      let k = keeps c e in
      let r = run_at n base last h (c + 23 + 1) (suc c) (counted_of y (c % n) (level_at n base last h c)) in
      by_test (Ends? c y)
      (λ b. (
        told_period c,
        is-end c y k.0 b ∙ ended_is c y z t b
            ∙ if_no (Loses? c) (lost_of (base + (c + 23 + 1)) (record_at n base last h c) (heads c)) (kept_of r (last_at n base last h c) (told_period c)) (k.1 b),
      ))
      (λ b. (heads c, is-in c y k.0 b ∙ ap (λ (u : Run). kept_of u (last_at n base last h c) (heads c)) (after-in c y z (inside-place c z b))))

  -- ---- a loss: a started sync
  pub lost-step : (c : ℕ) (y : Tally) → 0 < n → Running c y → loses_at n base last h c ≡ true →
      (es : Events) × (four c y ≡ record { run = started_of (base + suc (c + 23)) (record_at n base last h c); stores = Zeros; last = no_corr; events = es })
  unfolding loses_at lost_at_end lost_of
  lost-step c y z t e =
      let g : base + (c + 23) + 1 ≡ base + suc (c + 23) = omega arith in
      let g' : base + (c + 23 + 1) ≡ base + suc (c + 23) = omega arith in
      by_test (Lost? c y)
      (λ a. by_test (Ends? c y)
      (λ b. ((lost_end c).events, is-lost-end c y a b ∙ rw g))
      (λ b. ((lost_in c).events, is-lost-in c y a b ∙ rw g)))
      (λ a.
      let f = sym (if_no (Lost? c y) true (when Ends? c y then Loses? c else false) a) ∙ e in
      by_test (Ends? c y)
      (λ b.
      let d = sym (if_yes (Ends? c y) (Loses? c) false b) ∙ f in
      let u = lost_of (base + (c + 23 + 1)) (record_at n base last h c) (heads c) in (
        u.events,
        is-end c y a b ∙ ended_is c y z t b
            ∙ if_yes (Loses? c) u (kept_of (run_at n base last h (c + 23 + 1) (suc c) (counted_of y (c % n) (level_at n base last h c))) (last_at n base last h c) (told_period c)) d
            ∙ rw g',
      ))
      (λ b. absurd (never (sym f ∙ if_no (Ends? c y) (Loses? c) false b))))
