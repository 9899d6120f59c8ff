-- At most one slot is completed in a call: by its first head. Assumes nothing.
use Rattle.std.specs.Prelude.{Option, None, Some}
use Rattle.phase.specs.declared.Held.{Held}
use Rattle.phase.specs.declared.WholeSlot.{WholeSlot}
use Prim.Native.Nat.{ℕ, ◌<◌}
use Rattle.laws.specs.Choice.{if_no}
use Rattle.phase.specs.Phase.{begun_of, due_in, whole_of}
use Rattle.receiver.specs.declared.Listened.{Listened}
use Rattle.receiver.specs.Heads.{event_heard, listened, or_due}
use Rattle.sync_heads.specs.declared.Head.{Head}
use Rattle.sync_step.specs.declared.Event.{Event}
use Rattle.sync_step.specs.declared.Event.TheVariants.{Nothing, Head as Told, Period, Lost}
use Rattle.sync_step.specs.declared.Events.{Events}
use borrow.Author.Tests.{ne_eqb}
use lib.Dec.{eqb}
use mathlib.Core.Path.{◌∙◌, ◌≡◌, ap, refl}
use native.Mathlib.Omega.{arith}

-- a head has come: its slot has begun, and the first head told which slot of the phase p before is due
pub record Begun (n : ℕ) (p : Option Held) (l : Listened) : Type 0 where
  pub last : Head
  pub first : Head
  pub phase : l.phase ≡ begun_of last
  pub due : l.due ≡ due_in n p first

-- what events have made of the phase p that they found: nothing, or that
pub data From (n : ℕ) (p : Option Held) (l : Listened) : Type 0 where
  untouched : l.phase ≡ p → l.due ≡ None → From n p l
  begun : Begun n p l → From n p l

-- a slot that has just begun is not due
begun-none : (n : ℕ) (g h : Head) → 0 < n → due_in n (begun_of g) h ≡ None
unfolding due_in begun_of
begun-none n g h z = if_no (eqb 0 n) (Some (whole_of g h)) None (ne_eqb 0 n (λ e. omega (arith, e, z)))

or_none : (d : Option WholeSlot) → or_due d None ≡ d
unfolding or_due
or_none None = refl
or_none (Some w) = refl

none_or : (d : Option WholeSlot) → or_due None d ≡ d
unfolding or_due
none_or d = refl

abbrev heard_head : ℕ → Listened → Head → Listened
heard_head n l g = event_heard n l (Told g)

first_head : (n : ℕ) (p : Option Held) (l : Listened) (g : Head) → l.phase ≡ p → l.due ≡ None → Begun n p (heard_head n l g)
unfolding event_heard
first_head n p l g q d =
    record {
      last = g;
      first = g;
      phase = refl;
      due = ap (λ (u : Option WholeSlot). or_due u (due_in n l.phase g)) d ∙ none_or (due_in n l.phase g) ∙ ap (λ (u : Option Held). due_in n u g) q;
    }

next_head : (n : ℕ) (p : Option Held) (l : Listened) (g : Head) → 0 < n → Begun n p l → Begun n p (heard_head n l g)
unfolding event_heard
next_head n p l g z b =
    record {
      last = g;
      first = b.first;
      phase = refl;
      due = ap (λ (u : Option Held). or_due l.due (due_in n u g)) b.phase ∙ ap (or_due l.due) (begun-none n b.last g z) ∙ or_none l.due ∙ b.due;
    }

pub head-begun : (n : ℕ) (p : Option Held) (l : Listened) (g : Head) → 0 < n → From n p l → Begun n p (heard_head n l g)
head-begun n p l g z (untouched q d) = first_head n p l g q d
head-begun n p l g z (begun b) = next_head n p l g z b

pub event_from : (n : ℕ) (p : Option Held) (l : Listened) (e : Event) → 0 < n → From n p l → From n p (event_heard n l e)
event_from n p l Nothing z k = unfold event_heard in k
event_from n p l (Told g) z k = begun (head-begun n p l g z k)
event_from n p l (Period s) z k = unfold event_heard in k
event_from n p l (Lost at) z k = unfold event_heard in k

pub begun_stays : (n : ℕ) (p : Option Held) (l : Listened) (e : Event) → 0 < n → Begun n p l → Begun n p (event_heard n l e)
begun_stays n p l Nothing z b = unfold event_heard in b
begun_stays n p l (Told g) z b = next_head n p l g z b
begun_stays n p l (Period s) z b = unfold event_heard in b
begun_stays n p l (Lost at) z b = unfold event_heard in b

pub events_from : (n : ℕ) (l : Listened) (es : Events) → 0 < n → l.due ≡ None → From n l.phase (listened n l es)
unfolding listened
events_from n l es z d =
    let a = event_from n l.phase l es.first z (untouched refl d) in
    let b = event_from n l.phase (event_heard n l es.first) es.second z a in
    event_from n l.phase (event_heard n (event_heard n l es.first) es.second) es.third z b
