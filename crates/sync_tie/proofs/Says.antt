-- What the rules of specs/Stretch say of a push's events: heads first, and none beside a loss by markers. Assumes nothing.
use Rattle.sync_heads.specs.declared.FrameHead.{FrameHead}
use Rattle.std.specs.Prelude.{Option, None}
use Rattle.sync_heads.specs.declared.Head.{Head}
use Prim.Native.Nat.{◌-◌, ◌/◌, ◌<◌, ◌≤◌, suc, zero, ℕ}
use Rattle.laws.proofs.Tests.{and_both, by_test, never}
use Rattle.laws.specs.Choice as choice
use Rattle.laws.specs.Choice.{if_no, if_yes}
use Rattle.sync_corr.specs.declared.Both.{Both}
use Rattle.sync_history.proofs.Firsts.{by_first}
use Rattle.sync_history.proofs.Found.{lock-found}
use Rattle.sync_history.proofs.Read.{none-one}
use Rattle.sync_history.specs.Heads.{first_told, markers_lose, second_told}
use Rattle.sync_history.specs.History.{Eighth, figures, fourth_at}
use Rattle.sync_step.specs.Events.{event_of, no_events}
use Rattle.sync_step.specs.declared.Event.TheVariants.{Nothing}
use Rattle.sync_tie.proofs.Ruled.{by-lock}
use Rattle.sync_tie.specs.Pushes.{Push, size_at}
use Rattle.sync_tie.specs.Stretch.{both_in, count_in, eighth_ends, eighth_in, heads_at, heads_in, lock_before, markers_in, markers_lose_at, reads_in, start_in, tells, told_at}
use borrow.Author.Tests.{le-ltb, lt-ltb}
use lib.Dec.{ltb}
use mathlib.Core.Bool.{true}
use mathlib.Core.List.{List}
use mathlib.Core.Path.{◌∙◌, ◌≡◌, ap, refl, sym}

alone : (n start : ℕ) (last : Option FrameHead) (b : ℕ → Both) (i : ℕ) → markers_lose b i ≡ true → second_told n start last b i ≡ None
unfolding second_told
alone n start last b zero m = refl
alone n start last b (suc zero) m = absurd (never (sym m ∙ none-one n start last b))
alone n start last b (suc (suc i)) m = refl

module _ (n base : ℕ) (last : Option FrameHead) (h : List Push) where
  -- the heads that position c tells: two at most
  abbrev Two : ℕ → Type 0
  Two c = (a : Option Head) × (b : Option Head) × (heads_at n base last h c ≡ record { first = event_of a; second = event_of b; third = Nothing })

  pub heads-two : (c : ℕ) → Two c
  unfolding heads_at heads_in no_events event_of choice.when◌then◌else◌
  heads-two c =
      by-lock n base last h c
      (λ e. (None, None, rw e refl))
      (λ k e.
      by_test (reads_in n base last h k c)
      (λ r.
      let i = count_in n base last h k c in
      let b = both_in n base last h k in
      let start = start_in n base last h k in
      (first_told n start last b i, second_told n start last b i, rw (e, r) refl))
      (λ r. (None, None, rw (e, r) refl)))

  -- a loss by markers leaves the second place free
  pub lost-alone : (c : ℕ) → markers_lose_at n base last h c ≡ true → (heads_at n base last h c).second ≡ Nothing
  unfolding markers_lose_at markers_in heads_at heads_in event_of choice.when◌then◌else◌
  lost-alone c m =
      by-lock n base last h c
      (λ e. absurd (never (sym m ∙ rw e refl)))
      (λ k e.
      let i = count_in n base last h k c in
      let b = both_in n base last h k in
      let w = and_both (reads_in n base last h k c) (markers_lose b i) (sym (rw e refl) ∙ m) in
      rw (e, w.0) (ap event_of (alone n (start_in n base last h k) last b i w.1)))

  pub tells-late : (m : ℕ) → 23 ≤ m → tells n base last h m ≡ told_at n base last h (m - 23)
  unfolding tells
  tells-late m l = if_no (ltb m 23) no_events (told_at n base last h (m - 23)) (le-ltb m 23 l)

  pub tells_none : (m : ℕ) → m < 23 → tells n base last h m ≡ no_events
  unfolding tells
  tells_none m l = if_yes (ltb m 23) no_events (told_at n base last h (m - 23)) (lt-ltb m 23 l)

  -- the period that ends with position c, as an eighth other in a row
  pub eighth-found : (c : ℕ) → eighth_ends n base last h c ≡ true → (p : ℕ) × Eighth n (size_at h) p (c / n)
  unfolding eighth_ends eighth_in lock_before
  eighth-found c e =
      by_first (fourth_at n (size_at h)) (c / n)
      (λ q. absurd (never (sym e ∙ rw q refl)))
      (λ k q. ((figures n (size_at h) k).place, (lock-found n (size_at h) (c / n)).eighth_only k q (sym (rw q refl) ∙ e)))

  pub found-eighth : (c p : ℕ) → Eighth n (size_at h) p (c / n) → eighth_ends n base last h c ≡ true
  unfolding eighth_ends eighth_in lock_before
  found-eighth c p x = let w = (lock-found n (size_at h) (c / n)).eighth p x in rw w.1 w.2
