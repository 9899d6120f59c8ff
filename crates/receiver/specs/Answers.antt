-- What the calls answer, and the lent stores afterwards. A refusal "returns the number and the state received; lent memory is unchanged".
use Rattle.std.specs.Prelude.{ℕ, ◌-◌, Bool, true, false, ◌&&◌, List, ◌++◌, eqb, leb, ltb, ℤ, pos, nat_abs, length, replicate, Option, None, Some, Result, Ok, Err, ⊤}
use Rattle.laws.specs.Choice.{when◌then◌else◌}
use Rattle.refusal.specs.declared.Refusal.{Refusal}
use Rattle.refusal.specs.declared.Refusal.TheVariants.{Stores, Words, Table, Points as BadPoints, Scale, Arithmetic, Position, Counts}
use Rattle.refusal.specs.declared.Refused.{Refused}
use Rattle.refusal.specs.Refusals.{number_of, answered, written}
use Rattle.sync_corr.specs.Correlate.{ones_of}
use Rattle.sync_step.specs.declared.Events.{Events}
use Rattle.sync_step.specs.Events.{no_events}
use Rattle.demap.specs.Answers.{bad_points, bad_scale}
use Rattle.sums.specs.declared.Sums.{Sums}
use Rattle.sums.specs.Sums.{empty_sums}
use Rattle.eq.specs.declared.Equaliser.{Equaliser}
use Rattle.eq.specs.Eq.{with_sums, loaded_eq}
use Rattle.receiver_slot.specs.declared.Points.{Points}
use Rattle.receiver.specs.declared.Receiver.{Receiver}
use Rattle.receiver_slot.specs.declared.Runs.{Runs}
use Rattle.receiver.specs.declared.Answer.{Answer}
use Rattle.receiver.specs.declared.Ended.{Ended}
use Rattle.receiver.specs.Started.{started, new_kept, kept_of}
use Rattle.receiver_slot.specs.Slot.{no_run}
use Rattle.receiver.specs.Symbol.{Input, Lent, next_of, synced, receiver_after, lent_after, runs, past, full}
use Rattle.receiver.specs.Ranges.{receiver_in_range}

-- ---- what an answer says and leaves, whether the call was accepted or refused
-- the number of a refusal; 0 stands for an accepted call
abbrev pub code_in : {T S : Type 0} → Result T (Refused S) → ℕ
code_in (Ok _) = 0
code_in (Err refused) = number_of refused.why

unfoldable pub no_runs : Runs
no_runs = record { tail = no_run; body = no_run }

-- of a symbol: the receiver afterwards, and what is told
abbrev pub receiver_left : Result Answer (Refused Receiver) → Receiver
receiver_left (Ok a) = a.receiver
receiver_left (Err refused) = refused.state

abbrev pub events_told : Result Answer (Refused Receiver) → Events
events_told (Ok a) = a.events
events_told (Err _) = no_events

abbrev pub runs_told : Result Answer (Refused Receiver) → Runs
runs_told (Ok a) = a.runs
runs_told (Err _) = no_runs

-- of an end of sums: the receiver afterwards, and the sums if there were open ones. What the other calls leave is crate refusal's `state_after`
abbrev pub receiver_ended : Result Ended (Refused Receiver) → Receiver
receiver_ended (Ok e) = e.receiver
receiver_ended (Err refused) = refused.state

abbrev pub sums_ended : Result Ended (Refused Receiver) → Option Sums
sums_ended (Ok e) = e.sums
sums_ended (Err _) = None

-- ---- a new receiver: 1, accumulators not 9,296; position and step may be any
unfoldable pub new_answer : ℕ → ℤ → List ℕ → Result Receiver (Refused Receiver)
new_answer at step acc =
    when eqb (length acc) 9296 then Ok (started at (new_kept step)) else Err (record { why = Stores; state = started at (new_kept step) })

unfoldable pub new_acc : List ℕ → List ℕ
new_acc acc = when eqb (length acc) 9296 then replicate (length acc) 0 else acc

-- ---- a symbol
-- 6, "a number of the state out of range"
unfoldable pub range_refusal : Receiver → Result ⊤ Refusal
range_refusal r = when receiver_in_range r then Ok tt else Err Arithmetic

-- 1: "accumulators not 9,296 u32; slot store not 18,592 i16; soft buffer under 44,880 bytes", whether or not a soft bit is due
unfoldable pub stores_fit : Lent → Bool
stores_fit l = eqb (length l.acc) 9296 && eqb (length l.store) 18592 && leb 44880 (length l.soft)

-- 1; 2, a word entry not 1 or -1; 3, a table not of 1,024; 6, a number of the state out of range; 7; 8, "any of its trainings"
unfoldable pub symbol_refusal : Receiver → Input → Lent → Result ⊤ Refusal
symbol_refusal r x l =
    when stores_fit l
    then when ones_of x.f && ones_of x.s
    then when eqb (length x.table) 1024
    then when receiver_in_range r then when past 9296 r x l then Err Position else when full 9296 r x l then Err Counts else Ok tt else Err Arithmetic
    else Err Table
    else Err Words
    else Err Stores

-- what an accepted one answers
unfoldable pub accepted_symbol : Receiver → Input → Lent → Answer
accepted_symbol r x l = record { receiver = receiver_after 9296 r x l; events = (synced 9296 r x l).events; runs = runs 9296 r x l }

unfoldable pub symbol_answer : Receiver → Input → Lent → Result Answer (Refused Receiver)
symbol_answer r x l = answered (symbol_refusal r x l) r (accepted_symbol r x l)

unfoldable pub symbol_lent : Receiver → Input → Lent → Lent
symbol_lent r x l = written (symbol_refusal r x l) l (lent_after 9296 r x l)

-- ---- loads
-- a constellation: 4; 5; 6. Behind its points stand zeros
unfoldable pub loaded_points : ℕ → List ℤ → ℤ → Points
loaded_points bits points k = record { bits = bits; points = points ++ replicate (64 - length points) (pos 0); k = nat_abs k }

unfoldable pub points_refusal : Receiver → ℕ → ℕ → ℤ → Result ⊤ Refusal
points_refusal r bits len k = when bad_points bits len then Err BadPoints else when bad_scale k then Err Scale else range_refusal r

unfoldable pub with_points : Receiver → Points → Receiver
with_points r p = record { front = r.front; back = r.back; points = p }

unfoldable pub points_answer : Receiver → ℕ → List ℤ → ℤ → Result Receiver (Refused Receiver)
points_answer r bits points k = answered (points_refusal r bits (length points) k) r (with_points r (loaded_points bits points k))

-- the equaliser of a receiver
unfoldable pub with_eq : Receiver → Equaliser → Receiver
with_eq r e = record { front = r.front; back = record { eq = e; metas = r.back.metas; last = r.back.last }; points = r.points }

unfoldable pub eq_answer : Receiver → Equaliser → Result Receiver (Refused Receiver)
eq_answer r e = answered (range_refusal r) r (with_eq r e)

-- taps with their frame: 6
unfoldable pub taps_answer : Receiver → List ℤ → ℕ → Result Receiver (Refused Receiver)
taps_answer r taps frame = eq_answer r (loaded_eq r.back.eq taps frame)

-- ---- training calls: 6. Opening drops open sums and starts at count 0
unfoldable pub open_answer : Receiver → ℕ → Result Receiver (Refused Receiver)
open_answer r frame = eq_answer r (with_sums r.back.eq true (empty_sums frame))

unfoldable pub ended_of : Receiver → Ended
ended_of r =
    when r.back.eq.opened
    then record { receiver = with_eq r (with_sums r.back.eq false (empty_sums 0)); sums = Some r.back.eq.sums }
    else record { receiver = r; sums = None }

unfoldable pub end_answer : Receiver → Result Ended (Refused Receiver)
end_answer r = answered (range_refusal r) r (ended_of r)

-- ---- a restart: 1, accumulators; 6; 7, "a restart names a position below the next symbol's"
unfoldable pub restart_refusal : Receiver → ℕ → ℕ → Result ⊤ Refusal
restart_refusal r at len =
    when eqb len 9296 then when receiver_in_range r then when ltb at (next_of r) then Err Position else Ok tt else Err Arithmetic else Err Stores

unfoldable pub restart_answer : Receiver → ℕ → List ℕ → Result Receiver (Refused Receiver)
restart_answer r at acc = answered (restart_refusal r at (length acc)) r (started at (kept_of r))

unfoldable pub restart_acc : Receiver → ℕ → List ℕ → List ℕ
restart_acc r at acc = written (restart_refusal r at (length acc)) acc (replicate (length acc) 0)
