-- Events in their places.
use Rattle.sync_heads.specs.declared.Head.{Head}
use Rattle.std.specs.Prelude.{Bool, true, false, pos, Option, None, Some}
use Rattle.laws.specs.Choice.{when◌then◌else◌}
use Rattle.sync_heads.specs.declared.Taken.{Taken}
use Rattle.sync_step.specs.declared.Event.{Event}
use Rattle.sync_step.specs.declared.Event.TheVariants.{Nothing, Head as HeadEvent, Period, Lost}
use Rattle.sync_step.specs.declared.Events.{Events}
use Rattle.sync_step.specs.declared.LastCorr.{LastCorr}

unfoldable pub is_nothing : Event → Bool
is_nothing Nothing = true
is_nothing (HeadEvent h) = false
is_nothing (Period p) = false
is_nothing (Lost at) = false

unfoldable pub event_of : Option Head → Event
event_of None = Nothing
event_of (Some h) = HeadEvent h

unfoldable pub no_events : Events
no_events = record { first = Nothing; second = Nothing; third = Nothing }

-- the heads of a reading, in order
unfoldable pub heads_of : Taken → Events
heads_of k = record { first = event_of k.first; second = event_of k.second; third = Nothing }

-- one more event, in the first place that is free
unfoldable pub then_of : Events → Event → Events
then_of es e =
    when is_nothing es.first
    then record { first = e; second = es.second; third = Nothing }
    else when is_nothing es.second
    then record { first = es.first; second = e; third = Nothing }
    else record { first = es.first; second = es.second; third = e }

unfoldable pub no_corr : LastCorr
no_corr = record { both = record { f = record { re = pos 0; im = pos 0 }; s = record { re = pos 0; im = pos 0 } }; level = 0 }
