-- What the heads of a call do to carrier and slot phase. Assumes nothing.
use Rattle.std.specs.Prelude.{Option, None}
use Rattle.phase.specs.declared.Held.{Held}
use Prim.Native.Nat.{ℕ, ◌<◌}
use Rattle.carrier.specs.declared.Nco.{Nco}
use Rattle.laws.proofs.Tests.{by_test, neither, never}
use Rattle.receiver.specs.declared.Listened.{Listened}
use Rattle.receiver.specs.Heads.{event_heard, listened}
use Rattle.receiver_laws.proofs.Heads.{Begun, From, untouched, begun_stays, event_from, head-begun}
use Rattle.sync_step.specs.declared.Event.{Event}
use Rattle.sync_step.specs.declared.Event.TheVariants.{Nothing, Head as Told, Period, Lost}
use Rattle.sync_step.specs.declared.Events.{Events}
use Rattle.sync_tie.specs.Claims.{any_head, is_head}
use Rattle.guarantee.specs.History.{heard_event, heard_events}
use mathlib.Core.Bool.{false, true, ◌||◌}
use mathlib.Core.Path.{◌∙◌, ◌≡◌, ap, refl, sym}

-- ---- the carrier hears what the history's hears
event_nco : (n : ℕ) (l : Listened) (e : Event) → (event_heard n l e).nco ≡ heard_event l.nco e
unfolding event_heard heard_event
event_nco n l Nothing = refl
event_nco n l (Told g) = refl
event_nco n l (Period p) = refl
event_nco n l (Lost at) = refl

pub nco_heard_lem : (n : ℕ) (l : Listened) (es : Events) → (listened n l es).nco ≡ heard_events l.nco es
unfolding listened heard_events
nco_heard_lem n l es =
    let a = event_heard n l es.first in
    let b = event_heard n a es.second in
    event_nco n b es.third
    ∙ ap (λ (c : Nco). heard_event c es.third) (event_nco n a es.second ∙ ap (λ (c : Nco). heard_event c es.second) (event_nco n l es.first))

-- ---- no head: nothing is heard
no_event : (n : ℕ) (l : Listened) (e : Event) → is_head e ≡ false → event_heard n l e ≡ l
unfolding is_head event_heard
no_event n l Nothing k = refl
no_event n l (Told g) k = absurd (never k)
no_event n l (Period p) k = refl
no_event n l (Lost at) k = refl

pub none-heard : (n : ℕ) (l : Listened) (es : Events) → any_head es ≡ false → listened n l es ≡ l
unfolding any_head listened
none-heard n l es k =
    let a = neither (is_head es.first || is_head es.second) (is_head es.third) k in
    let b = neither (is_head es.first) (is_head es.second) a.0 in
    no_event n (event_heard n (event_heard n l es.first) es.second) es.third a.1
    ∙ no_event n (event_heard n l es.first) es.second b.1
    ∙ no_event n l es.first b.0

-- ---- a head: its slot begins, and the first of the call says whether the slot before is due
event_begun : (n : ℕ) (p : Option Held) (l : Listened) (e : Event) → is_head e ≡ true → 0 < n → From n p l → Begun n p (event_heard n l e)
unfolding is_head
event_begun n p l Nothing k z f = absurd (never (sym k))
event_begun n p l (Told g) k z f = head-begun n p l g z f
event_begun n p l (Period s) k z f = absurd (never (sym k))
event_begun n p l (Lost at) k z f = absurd (never (sym k))

pub head-heard : (n : ℕ) (l : Listened) (es : Events) → 0 < n → l.due ≡ None → any_head es ≡ true → Begun n l.phase (listened n l es)
unfolding any_head listened
head-heard n l es z d k =
    let p = l.phase in
    let a = event_heard n l es.first in
    let b = event_heard n a es.second in
    let fa = event_from n p l es.first z (untouched refl d) in
    let fb = event_from n p a es.second z fa in
    by_test (is_head es.third)
    (λ t. event_begun n p b es.third t z fb)
    (λ t.
    by_test (is_head es.second)
    (λ u. begun_stays n p b es.third z (event_begun n p a es.second u z fa))
    (λ u.
    by_test (is_head es.first)
    (λ v. begun_stays n p b es.third z (begun_stays n p a es.second z (event_begun n p l es.first v z (untouched refl d))))
    (λ v. absurd (never (sym k ∙ rw (v, u, t))))))
