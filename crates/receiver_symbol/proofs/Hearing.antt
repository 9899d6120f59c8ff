-- What each event of a call needs, one after another, and the slot that they complete. Assumes nothing.
use Rattle.std.specs.Prelude.{Option, None, Some}
use Rattle.phase.specs.declared.Held.{Held}
use Rattle.phase.specs.declared.WholeSlot.{WholeSlot}
use Prim.Native.Nat.{ℕ}
use Rattle.laws.proofs.Tests.{if_both}
use Rattle.sync_heads.specs.declared.Head.{Head as Told}
use Rattle.sync_heads.specs.declared.Word.{Word}
use Rattle.sync_heads.specs.declared.Word.TheVariants.{Ssync, Fsync, NotFsync}
use Rattle.sync_step.specs.declared.Event.{Event}
use Rattle.sync_step.specs.declared.Event.TheVariants.{Nothing, Head, Period, Lost}
use Rattle.sync_step.specs.declared.Events.{Events}
use Rattle.carrier.specs.declared.Nco.{Nco}
use Rattle.carrier.specs.Ranges.{NcoOk}
use Rattle.phase.specs.Phase.{begun_of, due_in, whole_of}
use Rattle.phase.specs.Ranges.{HeadOk, PhaseOk}
use Rattle.phase.proofs.Laws.{whole_ok}
use Rattle.phase_range.proofs.Steps.{whole_in_range_lem}
use Rattle.receiver.specs.declared.Listened.{Listened}
use Rattle.receiver.specs.Heads.{event_heard, listened, or_due}
use Rattle.receiver_symbol.specs.Parts.{DueOk, EventOk, EventsOk, HearOk, LaterOk, Quiet, TuneOk}

tune : (n : Nco) (w : Word) → NcoOk n → TuneOk n w
tune n Ssync o = o
tune n Fsync o = tt
tune n NotFsync o = tt

rest : (n : Nco) (w : Word) → Quiet w → TuneOk n w
rest n Ssync q = absurd q
rest n Fsync q = tt
rest n NotFsync q = tt

pub first_hears : (l : Listened) (e : Event) → NcoOk l.nco → PhaseOk l.phase → EventOk e → HearOk l e
first_hears l Nothing n p o = tt
first_hears l (Head h) n p o = record { head = o; phase = p; nco = tune l.nco h.word n }
first_hears l (Period x) n p o = tt
first_hears l (Lost at) n p o = tt

pub later_hears : (l : Listened) (e : Event) → PhaseOk l.phase → LaterOk e → HearOk l e
later_hears l Nothing p o = tt
later_hears l (Head h) p o = record { head = o.0; phase = p; nco = rest l.nco h.word o.1 }
later_hears l (Period x) p o = tt
later_hears l (Lost at) p o = tt

pub first_phase : (k : ℕ) (l : Listened) (e : Event) → PhaseOk l.phase → EventOk e → PhaseOk (event_heard k l e).phase
unfolding event_heard begun_of
first_phase k l Nothing p o = p
first_phase k l (Head h) p o = o
first_phase k l (Period x) p o = p
first_phase k l (Lost at) p o = p

pub later_phase : (k : ℕ) (l : Listened) (e : Event) → PhaseOk l.phase → LaterOk e → PhaseOk (event_heard k l e).phase
unfolding event_heard begun_of
later_phase k l Nothing p o = p
later_phase k l (Head h) p o = o.0
later_phase k l (Period x) p o = p
later_phase k l (Lost at) p o = p

-- ---- the slot that a call completes is one between two such heads
due_in_lem : (k : ℕ) (s : Option Held) (h : Told) → PhaseOk s → HeadOk h → DueOk (due_in k s h)
unfolding due_in
due_in_lem k None h p o = tt
due_in_lem k (Some x) h p o = if_both DueOk _ (Some (whole_of x.head h)) None (whole_ok (whole_of x.head h) (whole_in_range_lem x.head h p o)) tt

or_due_lem : (a b : Option WholeSlot) → DueOk a → DueOk b → DueOk (or_due a b)
unfolding or_due
or_due_lem None b p q = q
or_due_lem (Some w) b p q = p

heard_due : (k : ℕ) (l : Listened) (e : Event) → PhaseOk l.phase → DueOk l.due → EventOk e → DueOk (event_heard k l e).due
unfolding event_heard
heard_due k l Nothing p d o = d
heard_due k l (Head h) p d o = or_due_lem l.due (due_in k l.phase h) d (due_in_lem k l.phase h p o)
heard_due k l (Period x) p d o = d
heard_due k l (Lost at) p d o = d

sooner : (e : Event) → LaterOk e → EventOk e
sooner Nothing o = tt
sooner (Head h) o = o.0
sooner (Period x) o = tt
sooner (Lost at) o = tt

pub listened_due : (k : ℕ) (l : Listened) (es : Events) → PhaseOk l.phase → DueOk l.due → EventsOk es → DueOk (listened k l es).due
unfolding listened
listened_due k l es p d o =
    let l1 = event_heard k l es.first in
    let l2 = event_heard k l1 es.second in
    let p1 = first_phase k l es.first p o.first in
    let p2 = later_phase k l1 es.second p1 o.second in
    let d1 = heard_due k l es.first p d o.first in
    let d2 = heard_due k l1 es.second p1 d1 (sooner es.second o.second) in
    heard_due k l2 es.third p2 d2 (sooner es.third o.third)
