-- What a sync tells is what the fold of its pushes tells, and a list of pushes may be cut anywhere. Assumes nothing.
use Rattle.std.specs.Prelude.{Option}
use Rattle.sync_heads.specs.declared.FrameHead.{FrameHead}
use Prim.Native.Nat.{◌+◌, ◌-◌, ◌<◌, ◌≤◌, suc, zero, ℕ}
use Rattle.laws.proofs.Tests.{by_test}
use Rattle.laws.specs.Choice.{if_no, if_yes}
use Rattle.sync.specs.Sync.{kept_window, started_sync, stored_of}
use Rattle.sync_step.specs.Events.{no_corr, no_events}
use Rattle.sync_step.specs.Step.{early_of, started_of}
use Rattle.sync_step.specs.declared.Step.{Step}
use Rattle.sync_step.specs.declared.Stores.TheVariants.{Zeros}
use Rattle.sync_tie.proofs.Follow.{early-step, follows, pushed-is}
use Rattle.sync_tie.proofs.Step.{events-are, four, lost-step}
use Rattle.sync_tie.proofs.Track.{Follows, late_is, late-step}
use Rattle.sync_tie.specs.Pushes.{Push, no_push}
use Rattle.sync_tie.proofs.Story.{loses_at, record_at, tells, told_at}
use Rattle.sync_tie.specs.Tie.{Cut, Held, begun, push_on, pushes, step_on}
use Rattle.sync_tie.proofs.Story.{Kept}
use borrow.Author.Tests.{ltb-false, ltb-true}
use lib.Dec.{ltb}
use lib.ListN.{drop, get_or, length}
use lib.Seq.{get_or-drop}
use mathlib.Core.Bool.{true}
use mathlib.Core.List.{List}
use mathlib.Core.Path.{◌∙◌, ◌≡◌, ap, refl, subst, sym}
use native.Mathlib.Nat.{add-zero}
use native.Mathlib.Omega.{arith}

module _ (n base : ℕ) (last : Option FrameHead) (h : List Push) where
  abbrev after : ℕ → Held
  after m = pushes n (begun n base last) h m

  -- ---- a push that completes position c, after all before it were kept
  late-follows : (c : ℕ) → 0 < n → c + 23 < length h → Kept n base last h (c + 23) → Follows n base last h (c + 23) c (after (c + 23))
  late-follows c z l k =
      let e : c + 23 - 23 ≡ c = omega arith in
      rw e at (follows n base last h (c + 23) z (omega arith) k)

  step-late : (c : ℕ) → 0 < n → c + 23 < length h → Kept n base last h (c + 23) →
      step_on n (after (c + 23)) (get_or h (c + 23) no_push) ≡ four n base last h c (after (c + 23)).sync.run.tally
  step-late c z l k =
      let f = late-follows c z l k in
      late-step n base last h c (after (c + 23)) (get_or h (c + 23) no_push) z l refl f ∙ late_is n base last h c (after (c + 23)).sync.run.tally

  events-late : (c : ℕ) → 0 < n → c + 23 < length h → Kept n base last h (c + 23) →
      (step_on n (after (c + 23)) (get_or h (c + 23) no_push)).events ≡ told_at n base last h c
  events-late c z l k =
      let f = late-follows c z l k in
      ap (λ (s : Step). s.events) (step-late c z l k) ∙ events-are n base last h c (after (c + 23)).sync.run.tally z f.tally

  loss-late : (c : ℕ) → 0 < n → c + 23 < length h → Kept n base last h (c + 23) → loses_at n base last h c ≡ true →
      after (suc (c + 23)) ≡ begun n (base + suc (c + 23)) (record_at n base last h c)
  unfolding pushes stored_of kept_window started_sync
  loss-late c z l k e =
      let f = late-follows c z l k in
      let x = after (c + 23) in
      let p = get_or h (c + 23) no_push in
      let w = lost-step n base last h c x.sync.run.tally z f.tally e in
      let st : Step = record { run = started_of (base + suc (c + 23)) (record_at n base last h c); stores = Zeros; last = no_corr; events = w.0 } in
      pushed-is n base last h x p st (step-late c z l k ∙ w.1) ∙ rw f.long

  -- ---- any push
  pub events-of : (m : ℕ) → 0 < n → m < length h → Kept n base last h m → (step_on n (after m) (get_or h m no_push)).events ≡ tells n base last h m
  unfolding tells early_of
  events-of m z l k =
      by_test (ltb m 23)
      (λ t.
      let b = ltb-true m 23 t in
      let e : m - 23 ≡ 0 = omega arith in
      let f : Follows n base last h m 0 (after m) = rw e at (follows n base last h m z (omega arith) k) in
      ap (λ (s : Step). s.events) (early-step n base last h m (after m) (get_or h m no_push) b f) ∙ sym (if_yes (ltb m 23) no_events (told_at n base last h (m - 23)) t))
      (λ t.
      let b = ltb-false m 23 t in
      let e : m - 23 + 23 ≡ m = omega arith in
      let g = events-late (m - 23) z (omega arith) (λ c d. k c (omega arith)) in
      subst (λ (j : ℕ). (step_on n (after j) (get_or h j no_push)).events ≡ told_at n base last h (m - 23)) e g ∙ sym (if_no (ltb m 23) no_events (told_at n base last h (m - 23)) t))

  pub loss-of : (m : ℕ) → 0 < n → m < length h → Kept n base last h m → 23 ≤ m → loses_at n base last h (m - 23) ≡ true →
      after (suc m) ≡ begun n (base + suc m) (record_at n base last h (m - 23))
  loss-of m z l k b e =
      let g : m - 23 + 23 ≡ m = omega arith in
      subst (λ (j : ℕ). after (suc j) ≡ begun n (base + suc j) (record_at n base last h (m - 23))) g (loss-late (m - 23) z (omega arith) (λ c d. k c (omega arith)) e)

pub cut : Cut
unfolding pushes
cut n x h m zero l = rw add-zero
cut n x h m (suc j) l =
    let e : m + suc j ≡ suc (m + j) = omega arith in
    rw e (ap (λ (y : Held). push_on n y (get_or h (m + j) no_push)) (cut n x h m j (omega arith)) ∙ ap (push_on n (pushes n (pushes n x h m) (drop m h) j)) (sym (get_or-drop m h j no_push)))
