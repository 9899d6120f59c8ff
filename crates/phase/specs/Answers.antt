-- What the entries answer, and the slot store afterwards. A refusal "returns the number and the state received; lent memory is unchanged".
use Rattle.std.specs.Prelude.{ℕ, ◌+◌, ◌^◌, Bool, false, ◌&&◌, ◌||◌, List, eqb, leb, ltb, ℤ, length, ⊤, Option, None, Some, Result, Ok, Err}
use Rattle.laws.specs.Choice.{when◌then◌else◌}
use Rattle.refusal.specs.Refusals.{answered, written}
use Rattle.refusal.specs.declared.Refusal.{Refusal}
use Rattle.refusal.specs.declared.Refusal.TheVariants.{Stores, Table, Arithmetic, Position}
use Rattle.refusal.specs.declared.Refused.{Refused}
use Rattle.fx.specs.Answers.{wide}
use Rattle.sync_heads.specs.Given.{given_refusal}
use Rattle.sync_heads.specs.declared.Head.{Head}
use Rattle.phase.specs.declared.Held.{Held}
use Rattle.phase.specs.declared.WholeSlot.{WholeSlot}
use Rattle.phase.specs.declared.Headed.{Headed}
use Rattle.phase.specs.declared.Answered.{Answered}
use Rattle.phase.specs.Phase.{gain_of, begun_of, pushed_of, stored_of, due_of, corrected_of}
use Rattle.phase.specs.Ranges.{phase_in_range, whole_in_range}

-- ---- a gain: 6, of size over 2^60
unfoldable pub gain_answer : ℤ → Result ℤ Refusal
gain_answer amp = when wide amp then Err Arithmetic else Ok (gain_of amp)

-- ---- a restart: 6, a number of the state out of range
unfoldable pub restart_answer : Option Held → Result (Option Held) (Refused (Option Held))
restart_answer s = when phase_in_range s then Ok None else Err (record { why = Arithmetic; state = s })

-- ---- a symbol: 1, a slot store not of 18,592; 6; 7, the symbol "would stand at 2^62 or more": an ignored one stands nowhere
unfoldable pub held_past : Held → Bool
held_past x = when ltb x.count 9296 then leb (2 ^ 62) (x.head.at + x.count) else false

unfoldable pub past_end : Option Held → Bool
past_end None = false
past_end (Some x) = held_past x

unfoldable pub push_refusal : Option Held → ℕ → Result ⊤ Refusal
push_refusal s len =
    when eqb len 18592
    then when phase_in_range s then when past_end s then Err Position else Ok tt else Err Arithmetic
    else Err Stores

unfoldable pub push_answer : Option Held → List ℤ → Result (Option Held) (Refused (Option Held))
push_answer s store = answered (push_refusal s (length store)) s (pushed_of s)

unfoldable pub push_store : Option Held → ℤ → ℤ → List ℤ → List ℤ
push_store s i q store = written (push_refusal s (length store)) store (stored_of s i q store)

-- ---- a head: 6, also for an `amp` of size over 2^60; 7, a head given at 2^62 or more
unfoldable pub head_refusal : Option Held → Head → Result ⊤ Refusal
head_refusal s h =
    when phase_in_range s then given_refusal h else Err Arithmetic

unfoldable pub head_answer : Option Held → Head → Result Headed (Refused (Option Held))
head_answer s h = answered (head_refusal s h) s (record { phase = begun_of h; due = due_of s h })

-- what a head's answer hands back of the state: a refused head's as it was received
abbrev pub headed_phase : Result Headed (Refused (Option Held)) → Option Held
headed_phase (Ok x) = x.phase
headed_phase (Err x) = x.state

-- .. and the slot to correct
abbrev pub headed_due : Result Headed (Refused (Option Held)) → Option WholeSlot
headed_due (Ok x) = x.due
headed_due (Err x) = None

-- ---- symbol j of a slot: 1, the slot store; 3, a table not of 1,024; 6, a number of the slot out of range or "slot index over 9,295"; 7, the
-- symbol, or the slot's next head, at 2^62 or more
unfoldable pub place_past : WholeSlot → ℕ → Bool
place_past s j = leb (2 ^ 62) (s.head.at + j) || leb (2 ^ 62) s.next.at

unfoldable pub correct_refusal : WholeSlot → ℕ → ℕ → ℕ → Result ⊤ Refusal
correct_refusal s j table store =
    when eqb store 18592
    then
    when eqb table 1024
    then when whole_in_range s && ltb j 9296 then when place_past s j then Err Position else Ok tt else Err Arithmetic
    else Err Table
    else Err Stores

unfoldable pub correct_answer : WholeSlot → ℕ → List ℤ → List ℤ → Result Answered (Refused WholeSlot)
correct_answer s j table store =
    answered (correct_refusal s j (length table) (length store)) s (record { slot = s; told = corrected_of s table store j })
