-- The events of one symbol: its heads are heard, and period and loss change nothing; where no loss is told, the sync runs on with its lock.
-- Assumes nothing.
use Rattle.sync_heads.specs.declared.FrameHead.{FrameHead}
use Rattle.std.specs.Prelude.{Option, None, Some}
use Rattle.sync_heads.specs.declared.Head.{Head as HeadTold}
use Prim.Native.Nat.{ℕ, ◌+◌}
use mathlib.Core.Bool.{Bool, true, false, ◌||◌}
use mathlib.Core.Path.{◌≡◌, refl, sym, ap, subst, ◌∙◌}
use lib.Dec.{eqb}
use Rattle.laws.specs.Choice.{when◌then◌else◌}
use Rattle.laws.proofs.Tests.{if_both, if_either, never}
use Rattle.sync_corr.specs.declared.Both.{Both}
use Rattle.sync_corr.specs.Correlate.{size_of}
use Rattle.sync_lock.specs.declared.Lock.{Lock}
use Rattle.sync_lock.specs.declared.Lock.TheVariants.{Search, Locked}
use Rattle.sync_lock.specs.declared.Tally.{Tally}
use Rattle.sync_lock.specs.declared.Verdict.{Verdict}
use Rattle.sync_lock.specs.Period.{leak_of}
use Rattle.sync_lock.specs.Rule.{rule_of, held_of, lock_after}
use Rattle.sync_heads.specs.declared.Taken.{Taken}
use Rattle.sync_step.specs.declared.Event.{Event}
use Rattle.sync_step.specs.declared.Event.TheVariants.{Nothing, Head, Period, Lost}
use Rattle.sync_step.specs.declared.Events.{Events}
use Rattle.sync_step.specs.declared.LastCorr.{LastCorr}
use Rattle.sync_step.specs.declared.Run.{Run}
use Rattle.sync_step.specs.declared.Step.{Step}
use Rattle.sync_step.specs.declared.SyncStats.{SyncStats}
use Rattle.sync_step.specs.Events.{is_nothing, event_of, heads_of, then_of}
use Rattle.sync_step.specs.Step.{place_of, taken_of, after_of, lost_of, lost_at_end, loses_of, with_lock, kept_of, ended_of, late_of}
use Rattle.receiver.specs.declared.Listened.{Listened}
use Rattle.receiver.specs.Heads.{event_heard, listened, is_lost, loses_in}

-- ---- events that are not heard
abbrev pub Silent : Event → Type 0
Silent e = (n : ℕ) (l : Listened) → event_heard n l e ≡ l

nothing-silent : (e : Event) → is_nothing e ≡ true → Silent e
unfolding event_heard is_nothing
nothing-silent Nothing h n l = refl
nothing-silent (Head x) h n l = absurd (never (sym h))
nothing-silent (Period p) h n l = absurd (never (sym h))
nothing-silent (Lost at) h n l = absurd (never (sym h))

period-silent : (p : SyncStats) → Silent (Period p)
unfolding event_heard
period-silent p n l = refl

lost_silent : (at : ℕ) → Silent (Lost at)
unfolding event_heard
lost_silent at n l = refl

no_silent : Silent Nothing
unfolding event_heard
no_silent n l = refl

-- one more of them changes nothing
then_silent : (es : Events) (e : Event) → Silent e → Silent es.third → (n : ℕ) (l : Listened) → listened n l (then_of es e) ≡ listened n l es
unfolding then_of listened
then_silent es e h k n l =
    let a = event_heard n l es.first in
    let b = event_heard n a es.second in
    if_either (λ (x : Events). listened n l x ≡ listened n l es) (is_nothing es.first) _ _
    (λ t.
    no_silent n (event_heard n (event_heard n l e) es.second)
    ∙ ap (λ (x : Listened). event_heard n x es.second) (h n l ∙ sym (nothing-silent es.first t n l))
    ∙ sym (k n b))
    (λ t.
    if_either (λ (x : Events). listened n l x ≡ listened n l es) (is_nothing es.second) _ _
    (λ u. no_silent n (event_heard n a e) ∙ h n a ∙ sym (nothing-silent es.second u n a) ∙ sym (k n b))
    (λ u. h n b ∙ sym (k n b)))

then_third : (es : Events) (e : Event) → Silent e → Silent es.third → Silent (then_of es e).third
unfolding then_of
then_third es e h k =
    if_both (λ (x : Events). Silent x.third) _ _ _ no_silent (if_both (λ (x : Events). Silent x.third) _ _ _ no_silent h)

-- ---- a loss is told
or_second : (a c : Bool) → ((a || true) || c) ≡ true
or_second true c = refl
or_second false c = refl

or_third : (a b : Bool) → ((a || b) || true) ≡ true
or_third true b = refl
or_third false true = refl
or_third false false = refl

then_loses : (es : Events) (at : ℕ) → loses_in (then_of es (Lost at)) ≡ true
unfolding then_of loses_in is_lost
then_loses es at =
    if_both (λ (x : Events). loses_in x ≡ true) _ _ _ refl
    (if_both (λ (x : Events). loses_in x ≡ true) _ _ _ (or_second (is_lost es.first) (is_lost Nothing)) (or_third (is_lost es.first) (is_lost es.second)))

-- .. and stays with a period behind it, where there was room
end_loses : (a : Option HeadTold) (at : ℕ) (p : SyncStats) → loses_in (then_of (then_of (record { first = event_of a; second = Nothing; third = Nothing }) (Lost at)) (Period p)) ≡ true
unfolding event_of then_of loses_in is_lost is_nothing when◌then◌else◌
end_loses None at p = refl
end_loses (Some h) at p = refl

-- ---- the lock goes on
abbrev pub Stays : Lock → Lock → Type 0
Stays (Search cand count) k = Unit {0}
Stays (Locked offset misses) (Search cand count) = ⊥
Stays (Locked offset misses) (Locked place others) = place ≡ offset

pub record StillLocked (offset : ℕ) (k : Lock) : Type 0 where
  pub misses : ℕ
  pub is : k ≡ Locked offset misses

pub still_locked : (a b : Lock) (offset misses : ℕ) → Stays a b → a ≡ Locked offset misses → StillLocked offset b
still_locked a b offset misses s e = go b (subst (λ (x : Lock). Stays x b) e s)
  where
    go : (b : Lock) → Stays (Locked offset misses) b → StillLocked offset b
    go (Search cand count) z = absurd z
    go (Locked place others) z = record { misses = others; is = ap (λ (x : ℕ). Locked x others) z }

stays_self : (k : Lock) → Stays k k
stays_self (Search cand count) = tt
stays_self (Locked offset misses) = refl

rule_stays : (n : ℕ) (k : Lock) (y : Tally) → loses_of (rule_of n k y) ≡ false → Stays k (lock_after (rule_of n k y))
unfolding rule_of held_of lock_after loses_of
rule_stays n (Search cand count) y = λ e. tt
rule_stays n (Locked offset misses) y =
    if_both On _ _ _ (λ e. refl) (if_both On _ _ _ (λ e. refl) (λ e. absurd (never e)))
  where
    On : Verdict → Type 0
    On v = loses_of v ≡ false → Stays (Locked offset misses) (lock_after v)

-- ---- what a symbol that completes a window leaves, k being what is taken of it
pub record After (r : Run) (k : Taken) (q : Run) : Type 0 where
  pub base : q.base ≡ r.base
  pub t : q.t ≡ r.t + 1
  pub lock : Stays r.lock q.lock
  pub stage : q.stage ≡ k.stage
  pub course : q.course ≡ k.course

pub record Result (r : Run) (k : Taken) (x : Step) : Type 0 where
  pub heard : (n : ℕ) (l : Listened) → listened n l x.events ≡ event_heard n (event_heard n l (event_of k.first)) (event_of k.second)
  pub kept : loses_in x.events ≡ false → (k.lost ≡ false) × After r k x.run

heads_heard : (k : Taken) (n : ℕ) (l : Listened) → listened n l (heads_of k) ≡ event_heard n (event_heard n l (event_of k.first)) (event_of k.second)
unfolding listened heads_of
heads_heard k n l = no_silent n (event_heard n (event_heard n l (event_of k.first)) (event_of k.second))

heads_third : (k : Taken) → Silent (heads_of k).third
unfolding heads_of
heads_third k = no_silent

lost_result : (r : Run) (k : Taken) (at : ℕ) (last : Option FrameHead) → Result r k (lost_of at last (heads_of k))
unfolding lost_of
lost_result r k at last =
    record {
      heard = λ n l. then_silent (heads_of k) (Lost at) (lost_silent at) (heads_third k) n l ∙ heads_heard k n l;
      kept = λ e. absurd (never (sym (then_loses (heads_of k) at) ∙ e));
    }

heads_lose : (k : Taken) (at : ℕ) (p : SyncStats) → k.second ≡ None → loses_in (then_of (then_of (heads_of k) (Lost at)) (Period p)) ≡ true
unfolding heads_of event_of
heads_lose k at p z = rw z (end_loses k.first at p)

lost_end_result : (r : Run) (k : Taken) (at : ℕ) (last : Option FrameHead) → k.second ≡ None → Result r k (lost_at_end at last (heads_of k))
unfolding lost_at_end lost_of
lost_end_result r k at last z =
    record {
      heard = λ n l.
          then_silent (then_of (heads_of k) (Lost at)) _ (period-silent _) (then_third (heads_of k) (Lost at) (lost_silent at) (heads_third k)) n l
          ∙ then_silent (heads_of k) (Lost at) (lost_silent at) (heads_third k) n l
          ∙ heads_heard k n l;
      kept = λ e. absurd (never (sym (heads_lose k at _ z) ∙ e));
    }

kept_result : (r : Run) (k : Taken) (p a : ℕ) (last : LastCorr) → k.lost ≡ false → Result r k (kept_of (after_of r p a k) last (heads_of k))
unfolding kept_of after_of
kept_result r k p a last e =
    record { heard = heads_heard k; kept = λ z. (e, record { base = refl; t = refl; lock = stays_self r.lock; stage = refl; course = refl }) }

ended_result : (r : Run) (k : Taken) (p a : ℕ) (last : LastCorr) → k.lost ≡ false → Result r k (ended_of 9296 (after_of r p a k) last (heads_of k))
unfolding ended_of kept_of with_lock after_of
ended_result r k p a last e =
    if_either (Result r k) (loses_of (rule_of 9296 r.lock _)) _ _
    (λ z. lost_result r k _ _)
    (λ z.
    record {
      heard = λ n l. then_silent (heads_of k) _ (period-silent _) (heads_third k) n l ∙ heads_heard k n l;
      kept = λ y. (e, record { base = refl; t = refl; lock = rule_stays 9296 r.lock _ z; stage = refl; course = refl });
    })

-- the head that loses is not told
pub late_result : (r : Run) (b : Both) (a : ℕ) →
    ((taken_of 9296 r (place_of 9296 r.t) b).lost ≡ true → (taken_of 9296 r (place_of 9296 r.t) b).second ≡ None) →
    Result r (taken_of 9296 r (place_of 9296 r.t) b) (late_of 9296 r b a)
unfolding late_of
late_result r b a h =
    let p = place_of 9296 r.t in
    let k = taken_of 9296 r p b in
    let next = r.base + r.t + 1 in
    if_either (Result r k) k.lost _ _
    (λ e. if_both (Result r k) (eqb p 9295) _ _ (lost_end_result r k next k.course.last (h e)) (lost_result r k next k.course.last))
    (λ e. if_both (Result r k) (eqb p 9295) _ _ (ended_result r k p (leak_of a (size_of b)) _ e) (kept_result r k p (leak_of a (size_of b)) _ e))
