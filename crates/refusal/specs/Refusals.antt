-- Document 01, "Refusals, by place of checking": the places and their numbers. "A refusal returns the number and the state received".
use Rattle.std.specs.Prelude.{ℕ, Result, Ok, Err, ⊤}
use Rattle.refusal.specs.declared.Refusal.{Refusal}
use Rattle.refusal.specs.declared.Refusal.TheVariants.{Stores, Words, Table, Points, Scale, Arithmetic, Position, Counts, Sums, Pivot, Contents, Bodies}
use Rattle.refusal.specs.declared.Refused.{Refused}

abbrev pub number_of : Refusal → ℕ
number_of Stores = 1
number_of Words = 2
number_of Table = 3
number_of Points = 4
number_of Scale = 5
number_of Arithmetic = 6
number_of Position = 7
number_of Counts = 8
number_of Sums = 9
number_of Pivot = 10
number_of Contents = 11
number_of Bodies = 12

-- 0 stands for an accepted call.
abbrev pub code_of : {T : Type 0} → Result T Refusal → ℕ
code_of (Ok _) = 0
code_of (Err why) = number_of why

-- the answer of a call that takes a state: its own where the test lets it through, and else the refusal and the state as received
abbrev pub answered : {T S : Type 0} → Result ⊤ Refusal → S → T → Result T (Refused S)
answered (Ok _) state answer = Ok answer
answered (Err why) state answer = Err (record { why = why; state = state })

-- what is lent to a call, afterwards: written where the test lets the call through, and else unchanged
abbrev pub written : {A : Type 0} → Result ⊤ Refusal → A → A → A
written (Ok _) old new = new
written (Err _) old new = old

-- the state after a call whose own answer is the state
abbrev pub state_after : {S : Type 0} → Result S (Refused S) → S
state_after (Ok state) = state
state_after (Err refused) = refused.state
