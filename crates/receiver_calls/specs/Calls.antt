-- What each call that takes no store answers and leaves, by the definitions of receiver.
use Rattle.std.specs.Prelude.{ℕ, zero, suc, Bool, true, false, List, take, Option, None, Some, Result, Ok, Err}
use Rattle.refusal.specs.declared.Refusal.{Refusal}
use Rattle.refusal.specs.declared.Refused.{Refused}
use Rattle.refusal.specs.Refusals.{number_of, state_after}
use Rattle.sums.specs.declared.Sums.{Sums}
use Rattle.sums.specs.Sums.{empty_sums}
use Rattle.sync_step.specs.declared.Event.{Event}
use Rattle.sync_step.specs.declared.Events.{Events}
use Rattle.sync_step.specs.Events.{no_events}
use Rattle.receiver_slot.specs.declared.Runs.{Runs}
use Rattle.receiver.specs.declared.Receiver.{Receiver}
use Rattle.receiver.specs.Answers.{code_in, no_runs, points_answer, receiver_ended, sums_ended, with_eq, taps_answer, open_answer, end_answer}
use Rattle.wire.specs.Wire.{packed_of}
use Rattle.fields.specs.Fields.{at, at8, at32, signed64, sixteens_of, ones_at, least_of, four_told}
use Rattle.eq_calls.specs.Turns.{turn_of as eq_turn_of}
use Rattle.receiver_state.specs.Turns.{turn_of as state_turn_of}
use Rattle.receiver_play.specs.declared.Played.{Played}
use Rattle.receiver_play.specs.declared.Told.{Told}
use Rattle.receiver_calls.specs.declared.kept.Kept.{Kept}
use Rattle.receiver_calls.specs.declared.kept.Turn.{Turn}
use Rattle.receiver_calls.specs.Kept.{with_receiver, with_played, with_words, turned}
use Rattle.receiver_calls.specs.Given.{points_of}
use Rattle.receiver_calls.specs.Told.{event_told, played_told, ended_told}

-- a refusal, or 0, alone
unfoldable pub plain : Kept → ℕ → Turn
plain k refusal = turned k (four_told refusal 0 0 0)

unfoldable pub answered_turn : Kept → Result Receiver (Refused Receiver) → Turn
answered_turn k a = plain (with_receiver k (state_after a) k.sums) (code_in a)

-- the receiver's equaliser: the calls of eq_calls, with their answers
unfoldable pub eq_call : ℕ → Kept → List ℕ → Turn
eq_call op k p =
    let t = eq_turn_of op p (record { eq = k.receiver.back.eq; sums = k.sums }) in
    turned (with_receiver k (with_eq k.receiver t.kept.eq) t.kept.sums) t.told

-- a part of the receiver told, or replaced: the calls of receiver_state
unfoldable pub state_call : ℕ → Kept → List ℕ → Turn
state_call n k p = let t = state_turn_of n p k.receiver in turned (with_receiver k t.receiver k.sums) t.told

-- other words: the bytes of numbers 1 to 6, and 7 to 12
unfoldable pub words_call : Kept → List ℕ → Turn
words_call k p = plain (with_words k (ones_at (packed_of p) 8) (ones_at (packed_of p) 56)) 0

-- bits, scale, and as many points' numbers as number 3 says
unfoldable pub points_call : Kept → List ℕ → Turn
points_call k p = answered_turn k (points_answer k.receiver (at8 p 1) (take (least_of (at p 3) 80) (points_of (packed_of p))) (signed64 p 2))

-- frame, taps
unfoldable pub taps_call : Kept → List ℕ → Turn
taps_call k p = answered_turn k (taps_answer k.receiver (sixteens_of p) (at32 p 1))

unfoldable pub open_call : Kept → List ℕ → Turn
open_call k p = answered_turn k (open_answer k.receiver (at32 p 1))

-- zeros are kept and told where no sums ended
unfoldable pub ended_turn : Kept → Receiver → Option Sums → ℕ → Turn
ended_turn k r None refusal = turned (with_receiver k r (empty_sums 0)) (ended_told refusal false (empty_sums 0))
ended_turn k r (Some s) refusal = turned (with_receiver k r s) (ended_told refusal true s)

unfoldable pub end_call : Kept → Turn
end_call k = let a = end_answer k.receiver in ended_turn k (receiver_ended a) (sums_ended a) (code_in a)

-- an event of the last play: 0 the first, 1 the second, otherwise the third
unfoldable pub event_at : Events → ℕ → Event
event_at e zero = e.first
event_at e (suc zero) = e.second
event_at e (suc (suc n)) = e.third

unfoldable pub event_call : Kept → List ℕ → Turn
event_call k p = turned k (event_told (event_at k.events (at p 1)))

-- ---- what a play leaves and tells: no events where it was refused
abbrev pub told_turn : Kept → ℕ → Receiver → ℕ → Events → Runs → Turn
told_turn k used r refusal es runs = turned (with_played k r es) (played_told refusal used es runs)

unfoldable pub played_as : Kept → ℕ → Receiver → Result Told Refusal → Turn
played_as k used r (Ok t) = told_turn k used r 0 t.events t.runs
played_as k used r (Err why) = told_turn k used r (number_of why) no_events no_runs

unfoldable pub played_turn : Kept → Played → Turn
played_turn k a = played_as k a.used a.receiver a.told
