-- Answers as 24 numbers: the refusal, the answer's numbers, and zeros behind them. A negative number is 2^64 more. A refused call tells the
-- refusal's number, and the state as received where the state is told.
use Rattle.std.specs.Prelude.{ℕ, List, [], ◌∷◌, ◌++◌, replicate, ℤ, Option, None, Some, Result, Ok, Err}
use Rattle.refusal.specs.Refusals.{number_of}
use Rattle.refusal.specs.declared.Refusal.{Refusal}
use Rattle.refusal.specs.declared.Refused.{Refused}
use Rattle.carrier.specs.declared.Nco.{Nco}
use Rattle.carrier.specs.declared.Rotated.{Rotated}
use Rattle.carrier.specs.declared.Heard.{Heard}
use Rattle.phase.specs.declared.Held.{Held}
use Rattle.phase.specs.declared.Headed.{Headed}
use Rattle.phase.specs.declared.WholeSlot.{WholeSlot}
use Rattle.phase.specs.declared.Answered.{Answered}
use Rattle.phase.specs.declared.Corrected.{Corrected}
use Rattle.wire.specs.Wire.{bits}
use Rattle.fields.specs.Fields.{flag_of, four_told}
use Rattle.slot_wire.specs.Slots.{word_number, slot_shown}
use Rattle.phase_wire.specs.Told.{nco_told, head_told, phase_told}

-- ---- the carrier
unfoldable pub rotated_told : Result Rotated (Refused Nco) → List ℕ
rotated_told (Ok x) = nco_told 0 x.nco (bits x.symbol.i) (bits x.symbol.q)
rotated_told (Err x) = nco_told (number_of x.why) x.state 0 0

unfoldable pub heard_told : Result Heard (Refused Nco) → List ℕ
heard_told (Ok x) = nco_told 0 x.nco (flag_of x.set) 0
heard_told (Err x) = nco_told (number_of x.why) x.state 0 0

unfoldable pub restarted_told : Result Nco (Refused Nco) → List ℕ
restarted_told (Ok n) = nco_told 0 n 0 0
restarted_told (Err x) = nco_told (number_of x.why) x.state 0 0

-- ---- the slot's state, after a restart or a symbol, and after a head
unfoldable pub held_told : Result (Option Held) (Refused (Option Held)) → List ℕ
held_told (Ok s) = phase_told 0 s
held_told (Err x) = phase_told (number_of x.why) x.state

unfoldable pub headed_told : Result Headed (Refused (Option Held)) → List ℕ
headed_told (Ok x) = phase_told 0 x.phase
headed_told (Err x) = phase_told (number_of x.why) x.state

-- ---- a slot to correct: nothing, or its head and its steps; and its next head
abbrev pub slot_told : Option WholeSlot → List ℕ
slot_told None = four_told 0 0 0 0
slot_told (Some s) = head_told 0 s.head (bits s.delta) (bits s.gain) (bits s.gamma)

unfoldable pub due_told : Result Headed (Refused (Option Held)) → List ℕ
due_told (Ok x) = slot_told x.due
due_told (Err x) = four_told (number_of x.why) 0 0 0

abbrev pub second_told : Option WholeSlot → List ℕ
second_told None = four_told 0 0 0 0
second_told (Some s) = head_told 0 s.next 0 0 0

unfoldable pub next_told : Result Headed (Refused (Option Held)) → List ℕ
next_told (Ok x) = second_told x.due
next_told (Err x) = four_told (number_of x.why) 0 0 0

-- ---- a gain
unfoldable pub whole_told : Result ℤ Refusal → List ℕ
whole_told (Ok v) = four_told 0 (bits v) 0 0
whole_told (Err why) = four_told (number_of why) 0 0 0

-- ---- a corrected symbol
unfoldable pub corrected_told : Corrected → List ℕ
corrected_told c =
    let s = slot_shown c.slot in
    (0
    ∷ c.at
    ∷ word_number c.word
    ∷ s.known
    ∷ s.number
    ∷ s.frame
    ∷ c.j
    ∷ bits c.r.i
    ∷ bits c.r.q
    ∷ c.phi
    ∷ bits c.gain
    ∷ bits c.y.i
    ∷ bits c.y.q
    ∷ [])
    ++ replicate 11 0

unfoldable pub answered_told : Result Answered (Refused WholeSlot) → List ℕ
answered_told (Ok a) = corrected_told a.told
answered_told (Err x) = four_told (number_of x.why) 0 0 0
