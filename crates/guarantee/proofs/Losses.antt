-- The losses of a call. Assumes nothing.
use Prim.Native.Nat.{ℕ, ◌+◌, ◌-◌}
use Rattle.guarantee.proofs.Alike.{Same, same-all}
use Rattle.guarantee.proofs.Causes.{causes, eighth-lost, markers-lost}
use Rattle.guarantee.proofs.Follow.{after_is, fits, own-or-wrong}
use Rattle.guarantee.proofs.Lists.{call_steps}
use Rattle.guarantee.proofs.Lost.{Tells, lost-told, tells-loses}
use Rattle.guarantee.proofs.Refusals.{own-refusal}
use Rattle.guarantee.proofs.Taken.{lost-system, store_long}
use Rattle.guarantee.proofs.Tied.{Tied, is_lost_lem, late_test}
use Rattle.guarantee.specs.Calls.{Accumulators, Call, CallFits, InputFits, SlotStore, System, after_call, begins, told_all, told_by}
use Rattle.guarantee.specs.Calls.{symbol, points, taps, opens, ends, restarts, own}
use Rattle.guarantee.specs.Demand.{Among, LostAt, Losses, kept_after}
use Rattle.guarantee.specs.Demand.{in-first, in-second, in-third}
use Rattle.guarantee.specs.History.{History, events_in, events_with, kept_over, loses_by, loses_with, next_in, own_acc, own_store, refusal_in, with_symbol}
use Rattle.laws.proofs.Tests.{and_both, by_test, neither, never}
use Rattle.laws.specs.Choice.{if_no, if_yes, when◌then◌else◌}
use Rattle.receiver.specs.declared.Kept.{Kept}
use Rattle.receiver.specs.Answers.{symbol_refusal}
use Rattle.receiver.specs.Heads.{is_lost, loses_in}
use Rattle.receiver.specs.Started.{started}
use Rattle.receiver.specs.Symbol.{Input, Lent, store_after}
use Rattle.receiver_laws.specs.Stores.{Agree}
use Rattle.receiver_range.proofs.Codes.{let_through}
use Rattle.receiver_range.proofs.Theorems.{symbol-accepts}
use Rattle.sync_step.specs.declared.Event.{Event}
use Rattle.sync_step.specs.declared.Event.TheVariants.{Nothing, Head, Period, Lost}
use Rattle.sync_step.specs.declared.Events.{Events}
use Rattle.sync_step.specs.Events.{no_events}
use Rattle.sync_tie.proofs.Says.{tells-late}
use Rattle.sync_tie.specs.Stretch.{loses_at, told_at}
use borrow.Author.Tests.{eqb-true}
use lib.Dec.{eqb, leb}
use lib.IntN.{ℤ}
use lib.ListN.{length}
use mathlib.Core.Bool.{false, true, ◌&&◌, ◌||◌}
use mathlib.Core.List.{List}
use mathlib.Core.Path.{◌∙◌, ◌≡◌, ap, refl, subst, sym}
use native.Mathlib.Omega.{arith}

-- ---- losses
not_there : (at : ℕ) (e : Event) → is_lost e ≡ false → LostAt at e → ⊥
unfolding is_lost
not_there at Nothing k p = p
not_there at (Head g) k p = p
not_there at (Period q) k p = p
not_there at (Lost to) k p = never k

pub none_lost : (at : ℕ) (es : Events) → loses_in es ≡ false → Among (LostAt at) es → ⊥
unfolding loses_in
none_lost at es k (in-first p) = not_there at es.first (neither (is_lost es.first) (is_lost es.second) (neither (is_lost es.first || is_lost es.second) (is_lost es.third) k).0).0 p
none_lost at es k (in-second p) = not_there at es.second (neither (is_lost es.first) (is_lost es.second) (neither (is_lost es.first || is_lost es.second) (is_lost es.third) k).0).1 p
none_lost at es k (in-third p) = not_there at es.third (neither (is_lost es.first || is_lost es.second) (is_lost es.third) k).1 p

pub no_losses : loses_in no_events ≡ false
unfolding loses_in is_lost no_events
no_losses = refl

module _ (s : System) (h : History) (t : Tied s h) (x : Input) (soft : List ℤ) where
  abbrev m : ℕ
  m = length h.pushes

  -- what a losing symbol tells
  lost-with : loses_with h x ≡ true → Tells (next_in h + 1) (events_with h x)
  unfolding events_with next_in
  lost-with e =
      let q = is_lost_lem s h t x soft e in
      let n : h.base + (m - 23) + 24 ≡ h.base + m + 1 = omega (arith, q.0) in
      let g = with_symbol h x in
      subst (λ (es : Events). Tells (h.base + m + 1) es) (sym (tells-late 9296 h.base h.last g m q.0))
      (subst (λ (k : ℕ). Tells k (told_at 9296 h.base h.last g (m - 23))) n ((lost-told 9296 h.base h.last g (m - 23)).1 q.1))

  -- .. and one that does not
  kept-with : loses_with h x ≡ false → loses_in (events_with h x) ≡ false
  unfolding events_with
  kept-with e = tells-loses 9296 h.base h.last (with_symbol h x) m ∙ late_test m (loses_at 9296 h.base h.last (with_symbol h x) (m - 23)) ∙ is-with e
    where
      is-with : loses_with h x ≡ false → (leb 23 m && loses_at 9296 h.base h.last (with_symbol h x) (m - 23)) ≡ false
      is-with e = unfold loses_with in e

  module _ (a : Accumulators) (b : SlotStore) where
    abbrev c : Call
    c = symbol x a b soft

    lost-parts : loses_by h c ≡ true → (eqb (refusal_in h c) 0 ≡ true) × (loses_with h x ≡ true)
    unfolding loses_by
    lost-parts e = and_both (eqb (refusal_in h c) 0) (loses_with h x) e

    symbol-told : loses_by h c ≡ true → Among (LostAt (next_in h + 1)) (events_in h c)
    unfolding events_in
    symbol-told e =
        let k = lost-parts e in
        subst (Among (LostAt (next_in h + 1))) (sym (if_yes (eqb (refusal_in h c) 0) (events_with h x) no_events k.0)) (lost-with k.1).there

    symbol-only : (at : ℕ) → Among (LostAt at) (events_in h c) → (loses_by h c ≡ true) × (at ≡ next_in h + 1)
    unfolding events_in loses_by
    symbol-only at w =
        by_test (eqb (refusal_in h c) 0)
        (λ e.
        let v : Among (LostAt at) (events_with h x) = subst (Among (LostAt at)) (if_yes (eqb (refusal_in h c) 0) (events_with h x) no_events e) w in
        by_test (loses_with h x)
        (λ k. (rw (e, k), (lost-with k).only at v))
        (λ k. absurd (none_lost at (events_with h x) (kept-with k) v)))
        (λ e. absurd (none_lost at no_events no_losses (subst (Among (LostAt at)) (if_no (eqb (refusal_in h c) 0) (events_with h x) no_events e) w)))

-- a refused symbol loses nothing
pub wrong_loses : (h : History) (x : Input) (a : Accumulators) (b : SlotStore) (soft : List ℤ) → (own_acc a && own_store b) ≡ false → loses_by h (symbol x a b soft) ≡ false
unfolding loses_by refusal_in when◌then◌else◌
wrong_loses h x a b soft e = rw e

-- ---- after a loss
idle_agree : (at : ℕ) (k : Kept) (a b : List ℤ) → length a ≡ 18592 → length b ≡ 18592 → Agree (started at k).front.phase a b
unfolding started
idle_agree at k a b ea eb = record { first = ea; second = eb; held = tt }

pub begins-same : (at : ℕ) (k : Kept) (a b : List ℤ) → length a ≡ 18592 → length b ≡ 18592 → Same (begins at k a) (begins at k b)
unfolding begins
begins-same at k a b ea eb = record { receivers = refl; accs = refl; stores = idle_agree at k a b ea eb }

module _ (s : System) (h : History) (t : Tied s h) where
  own-lost : (x : Input) (soft : List ℤ) → InputFits x → loses_by h (symbol x own own soft) ≡ true →
      (store : List ℤ) × (length store ≡ 18592) × (after_call s (symbol x own own soft) ≡ begins (next_in h + 1) (kept_over h x) store)
  own-lost x soft f e =
      let l : Lent = record { acc = s.acc; store = s.store; soft = soft } in
      let k = lost-parts s h t x soft own own e in
      let z = let_through (symbol_refusal s.receiver x l) (own-refusal s h t x soft ∙ eqb-true (refusal_in h (symbol x own own soft)) 0 k.0) in
      let q = symbol-accepts s.receiver x l t.coherent (fits s h t x soft f) z in (
        store_after 9296 s.receiver x l,
        store_long s h t x soft q.takes q.room,
        after_is s h t x soft f z ∙ lost-system s h t x soft q.takes q.room k.1,
      )

  symbol-lost : (x : Input) (a : Accumulators) (b : SlotStore) (soft : List ℤ) → InputFits x → loses_by h (symbol x a b soft) ≡ true →
      (store : List ℤ) × (length store ≡ 18592) × (after_call s (symbol x a b soft) ≡ begins (next_in h + 1) (kept_over h x) store)
  symbol-lost x a b soft f e =
      own-or-wrong
      (λ (u : Accumulators) (v : SlotStore). loses_by h (symbol x u v soft) ≡ true → (store : List ℤ) × (length store ≡ 18592) × (after_call s (symbol x u v soft) ≡ begins (next_in h + 1) (kept_over h x) store))
      (own-lost x soft f)
      (λ u v z d. absurd (never (sym d ∙ wrong_loses h x u v soft z))) a b e

  -- what a losing call leaves is a receiver that begins with the kept values
  pub lost-begins : (c : Call) → CallFits c → loses_by h c ≡ true →
      (store : List ℤ) × (length store ≡ 18592) × (after_call s c ≡ begins (next_in h + 1) (kept_after h c) store)
  unfolding loses_by kept_after
  lost-begins (symbol x a b soft) f e = symbol-lost x a b soft f e
  lost-begins (points bits ps q) f e = absurd (never (sym e))
  lost-begins (taps ts frame) f e = absurd (never (sym e))
  lost-begins (opens frame) f e = absurd (never (sym e))
  lost-begins ends f e = absurd (never (sym e))
  lost-begins (restarts at a) f e = absurd (never (sym e))

  like_new : (c : Call) → CallFits c → (rest : List Call) → loses_by h c ≡ true → (store : List ℤ) → length store ≡ 18592 →
      told_all (after_call s c) rest ≡ told_all (begins (next_in h + 1) (kept_after h c) store) rest
  like_new c f rest e store k =
      let w = lost-begins c f e in
      ap (λ (y : System). told_all y rest) w.2 ∙ same-all _ _ rest (begins-same (next_in h + 1) (kept_after h c) w.0 store w.1 k)

  -- ---- all of it
  pub lost-told-by : (c : Call) → loses_by h c ≡ true → Among (LostAt (next_in h + 1)) (events_in h c)
  unfolding loses_by
  lost-told-by (symbol x a b soft) e = symbol-told s h t x soft a b e
  lost-told-by (points bits ps q) e = absurd (never (sym e))
  lost-told-by (taps ts frame) e = absurd (never (sym e))
  lost-told-by (opens frame) e = absurd (never (sym e))
  lost-told-by ends e = absurd (never (sym e))
  lost-told-by (restarts at a) e = absurd (never (sym e))

  lost-only-by : (c : Call) (at : ℕ) → Among (LostAt at) (events_in h c) → (loses_by h c ≡ true) × (at ≡ next_in h + 1)
  unfolding events_in
  lost-only-by (symbol x a b soft) at w = symbol-only s h t x soft a b at w
  lost-only-by (points bits ps q) at w = absurd (none_lost at no_events no_losses w)
  lost-only-by (taps ts frame) at w = absurd (none_lost at no_events no_losses w)
  lost-only-by (opens frame) at w = absurd (none_lost at no_events no_losses w)
  lost-only-by ends at w = absurd (none_lost at no_events no_losses w)
  lost-only-by (restarts to a) at w = absurd (none_lost at no_events no_losses w)

  pub losses : (c : Call) → CallFits c → (rest : List Call) → Losses h s c (told_by s c) rest
  losses c f rest =
      let k = (call_steps s h c t f).events in
      record {
        told = λ e. subst (Among (LostAt (next_in h + 1))) (sym k) (lost-told-by c e);
        only = λ at w. lost-only-by c at (subst (Among (LostAt at)) k w);
        kinds = causes s h t c;
        markers = markers-lost s h t c;
        eighth = eighth-lost s h t c;
        like_new = like_new c f rest;
      }
