-- "Each head to `Nco`, then `SlotPhase`."
use Rattle.phase.specs.declared.WholeSlot.{WholeSlot}
use Rattle.std.specs.Prelude.{ℕ, Bool, true, false, ◌||◌, Option, None, Some}
use Rattle.sync_step.specs.declared.Event.{Event}
use Rattle.sync_step.specs.declared.Event.TheVariants.{Nothing, Head, Period, Lost}
use Rattle.sync_step.specs.declared.Events.{Events}
use Rattle.carrier.specs.Carrier.{heard_of}
use Rattle.phase.specs.Phase.{begun_of, due_in}
use Rattle.receiver.specs.declared.Listened.{Listened}

-- a call completes one slot at most (crate receiver_laws); the first is told
unfoldable pub or_due : Option WholeSlot → Option WholeSlot → Option WholeSlot
or_due None d = d
or_due (Some w) d = Some w

unfoldable pub event_heard : ℕ → Listened → Event → Listened
event_heard n l Nothing = l
event_heard n l (Head h) = record { nco = (heard_of l.nco h).nco; phase = begun_of h; due = or_due l.due (due_in n l.phase h) }
event_heard n l (Period p) = l
event_heard n l (Lost at) = l

-- the events of a call in order
unfoldable pub listened : ℕ → Listened → Events → Listened
listened n l es = event_heard n (event_heard n (event_heard n l es.first) es.second) es.third

-- a loss is among them
unfoldable pub is_lost : Event → Bool
is_lost Nothing = false
is_lost (Head h) = false
is_lost (Period p) = false
is_lost (Lost at) = true

unfoldable pub loses_in : Events → Bool
loses_in es = is_lost es.first || is_lost es.second || is_lost es.third
