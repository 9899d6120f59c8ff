-- The lines: document 01, "Capture". Letters are ASCII codes; 32 is a blank, 10 ends a line.
use Rattle.sync_heads.specs.declared.SlotNumber.{SlotNumber}
use Rattle.std.specs.Prelude.{ℕ, zero, suc, ◌+◌, Bool, true, false, List, [], ◌∷◌, ◌++◌, leb, ltb, ℤ, pos, length, get_or, Option, None, Some, is_some, Result, Ok, Err, ⊤}
use Rattle.laws.specs.Choice.{when◌then◌else◌}
use Rattle.refusal.specs.declared.Refusal.{Refusal}
use Rattle.refusal.specs.declared.Refusal.TheVariants.{Stores, Points}
use Rattle.sync_heads.specs.declared.Head.{Head}
use Rattle.sync_heads.specs.declared.Word.{Word}
use Rattle.sync_heads.specs.declared.Word.TheVariants.{Ssync, Fsync, NotFsync}
use Rattle.sync_step.specs.declared.SyncStats.{SyncStats}
use Rattle.sync_step.specs.declared.Event.{Event}
use Rattle.sync_step.specs.declared.Event.TheVariants.{Nothing, Head as HeadEvent, Period, Lost}
use Rattle.lines.specs.Decimal.{decimal_of, signed_of}

-- a number and what follows it
abbrev pub number_then : ℕ → ℕ → List ℕ
number_then n b = decimal_of n ++ (b ∷ [])

-- "LOCKED (0 or 1)"
unfoldable pub bit : Bool → ℕ
bit false = 0
bit true = 1

-- `period PEAK PEAKPOS SUM LOCKED`
unfoldable pub period_line : SyncStats → List ℕ
period_line p =
    (112 ∷ 101 ∷ 114 ∷ 105 ∷ 111 ∷ 100 ∷ 32 ∷ [])
    ++ number_then p.peak 32 ++ number_then p.peak_pos 32 ++ number_then p.sum 32 ++ number_then (bit (is_some p.offset)) 10

-- "S, F or N"
unfoldable pub letter_of : Word → ℕ
letter_of Ssync = 83
letter_of Fsync = 70
letter_of NotFsync = 78

-- NUMBER FRAME, "`-` if unknown"
unfoldable pub slot_text : Option SlotNumber → List ℕ
slot_text None = 45 ∷ 32 ∷ 45 ∷ 10 ∷ []
slot_text (Some s) = number_then s.number 32 ++ number_then s.frame 10

-- `head AT WORD NUMBER FRAME`
unfoldable pub head_line : Head → List ℕ
head_line h = (104 ∷ 101 ∷ 97 ∷ 100 ∷ 32 ∷ []) ++ number_then h.at 32 ++ (letter_of h.word ∷ 32 ∷ []) ++ slot_text h.slot

-- `lost AT`
unfoldable pub lost_line : ℕ → List ℕ
lost_line at = (108 ∷ 111 ∷ 115 ∷ 116 ∷ 32 ∷ []) ++ number_then at 10

unfoldable pub event_line : Event → List ℕ
event_line Nothing = []
event_line (HeadEvent h) = head_line h
event_line (Period p) = period_line p
event_line (Lost at) = lost_line at

-- a value with a blank before it, the first n, and all to the line's end
unfoldable pub value_text : ℤ → List ℕ
value_text v = (32 ∷ []) ++ signed_of v

unfoldable pub values_to : List ℤ → ℕ → List ℕ
values_to vs zero = []
values_to vs (suc n) = values_to vs n ++ value_text (get_or vs n (pos 0))

unfoldable pub values_text : List ℤ → List ℕ
values_text vs = values_to vs (length vs) ++ (10 ∷ [])

-- `soft AT J` and the values
unfoldable pub soft_line : ℕ → ℕ → List ℤ → List ℕ
soft_line at j vs = (115 ∷ 111 ∷ 102 ∷ 116 ∷ 32 ∷ []) ++ number_then at 32 ++ decimal_of j ++ values_text vs

-- in a buffer: 1 without room; 4, "bits outside 1..5", for more than five values
unfoldable pub soft_refusal : ℕ → ℕ → ℕ → Result ⊤ Refusal
soft_refusal count place room =
    when leb (place + 256) room then when ltb 5 count then Err Points else Ok Prim.tt else Err Stores

-- `end SYMBOLS` and `refused NUMBER`
unfoldable pub end_line : ℕ → List ℕ
end_line n = (101 ∷ 110 ∷ 100 ∷ 32 ∷ []) ++ number_then n 10

unfoldable pub refused_line : ℕ → List ℕ
refused_line n = (114 ∷ 101 ∷ 102 ∷ 117 ∷ 115 ∷ 101 ∷ 100 ∷ 32 ∷ []) ++ number_then n 10
