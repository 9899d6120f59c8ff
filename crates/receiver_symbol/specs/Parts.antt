-- What the functions between the entries and the definitions give, and what they need.
use Rattle.phase.specs.declared.Held.{Held}
use Rattle.phase.specs.declared.WholeSlot.{WholeSlot}
use Rattle.std.specs.Prelude.{ℕ, ◌+◌, ◌^◌, ◌≤◌, ◌<◌, true, ◌&&◌, List, ◌≡◌, eqb, leb, ltb, ℤ, length, Option, None, Some, Result, Ok, Err, ⊤}
use Rattle.laws.specs.Choice.{when◌then◌else◌}
use Rattle.refusal.specs.declared.Refusal.{Refusal}
use Rattle.refusal.specs.declared.Refusal.TheVariants.{Stores, Words, Table, Position, Counts}
use Rattle.refusal.specs.declared.Refused.{Refused}
use Rattle.refusal.specs.Refusals.{answered, written}
use Rattle.sync_corr.specs.Correlate.{both_of, ones_of}
use Rattle.sync_heads.specs.declared.Head.{Head as Told}
use Rattle.sync_heads.specs.declared.Word.{Word}
use Rattle.sync_heads.specs.declared.Word.TheVariants.{Ssync, Fsync, NotFsync}
use Rattle.sync_step.specs.declared.Event.{Event}
use Rattle.sync_step.specs.declared.Event.TheVariants.{Nothing, Head, Period, Lost}
use Rattle.sync_step.specs.declared.Events.{Events}
use Rattle.sync_step.specs.Ranges.{RunOk}
use Rattle.sync_step.specs.Step.{step_of}
use Rattle.sync.specs.Sync.{window_after, kept_window, stored_of}
use Rattle.carrier.specs.declared.Nco.{Nco}
use Rattle.carrier.specs.Carrier.{rotated_of, advanced_nco}
use Rattle.carrier.specs.Ranges.{NcoOk}
use Rattle.phase.specs.declared.Corrected.{Corrected}
use Rattle.phase.specs.Phase.{pushed_in, stored_in, symbol_at}
use Rattle.phase.specs.Ranges.{HeadOk, PhaseOk, WholeOk}
use Rattle.frame.specs.declared.Back.{Back}
use Rattle.frame.specs.declared.AlignedSymbol.{AlignedSymbol}
use Rattle.frame.specs.Stretch.{after_all}
use Rattle.receiver_slot.specs.declared.Runs.{Runs}
use Rattle.receiver_slot.specs.Full.{full_at}
use Rattle.receiver_slot.specs.Slot.{aligned_all, due_symbols, overfull, runs_of, soft_all, waiting_before, written_on}
use Rattle.receiver.specs.declared.Front.{Front}
use Rattle.receiver.specs.declared.Receiver.{Receiver}
use Rattle.receiver.specs.declared.Listened.{Listened}
use Rattle.receiver_symbol.specs.declared.Ahead.{Ahead}
use Rattle.receiver.specs.declared.Answer.{Answer}
use Rattle.receiver.specs.Started.{started, kept_of}
use Rattle.receiver.specs.Heads.{listened, loses_in}
use Rattle.receiver.specs.Symbol.{next_of, slot_past}
use Rattle.receiver.specs.Ranges.{receiver_in_range}
use Rattle.receiver.specs.Answers.{range_refusal}

-- ---- why a symbol is refused, as far as that is known without its slot
-- one test after another: the second where the first lets the call through
abbrev pub tested : Result ⊤ Refusal → Result ⊤ Refusal → Result ⊤ Refusal
tested (Ok x) second = second
tested (Err why) second = Err why

-- what is lent; the next symbol's position; the state with it
unfoldable pub lent_refusal : ℕ → ℕ → ℕ → List ℤ → List ℤ → ℕ → Result ⊤ Refusal
lent_refusal acc store soft f s table =
    when eqb acc 9296 && eqb store 18592 && leb 44880 soft
    then when ones_of f && ones_of s then when eqb table 1024 then Ok tt else Err Table else Err Words
    else Err Stores

unfoldable pub next_refusal : Receiver → Result ⊤ Refusal
next_refusal r = when leb (2 ^ 62) (next_of r) then Err Position else Ok tt

unfoldable pub state_refusal : Receiver → Result ⊤ Refusal
state_refusal r = tested (range_refusal r) (next_refusal r)

unfoldable pub soon_refusal : Receiver → ℕ → ℕ → ℕ → List ℤ → List ℤ → ℕ → Result ⊤ Refusal
soon_refusal r acc store soft f s table = tested (lent_refusal acc store soft f s table) (state_refusal r)

-- what is known where it is none of these
pub record Soon (r : Receiver) (acc store soft : ℕ) (f s : List ℤ) (table : ℕ) : Type 0 where
  pub within : receiver_in_range r ≡ true
  pub next : next_of r < 2 ^ 62
  pub long : acc ≡ 9296
  pub held : store ≡ 18592
  pub buffer : 44880 ≤ soft
  pub first : ones_of f ≡ true
  pub second : ones_of s ≡ true
  pub cosines : table ≡ 1024

-- ---- heads: an F head leaves the carrier as it is, so that only an Ssync head needs its range
abbrev pub TuneOk : Nco → Word → Type 0
TuneOk n Ssync = NcoOk n
TuneOk n Fsync = Unit {0}
TuneOk n NotFsync = Unit {0}

pub record HeadHeard (l : Listened) (h : Told) : Type 0 where
  pub head : HeadOk h
  pub phase : PhaseOk l.phase
  pub nco : TuneOk l.nco h.word

abbrev pub HearOk : Listened → Event → Type 0
HearOk l Nothing = Unit {0}
HearOk l (Head h) = HeadHeard l h
HearOk l (Period p) = Unit {0}
HearOk l (Lost at) = Unit {0}

abbrev pub Quiet : Word → Type 0
Quiet Ssync = ⊥
Quiet Fsync = Unit {0}
Quiet NotFsync = Unit {0}

abbrev pub EventOk : Event → Type 0
EventOk Nothing = Unit {0}
EventOk (Head h) = HeadOk h
EventOk (Period p) = Unit {0}
EventOk (Lost at) = Unit {0}

abbrev pub LaterOk : Event → Type 0
LaterOk Nothing = Unit {0}
LaterOk (Head h) = (HeadOk h) × (Quiet h.word)
LaterOk (Period p) = Unit {0}
LaterOk (Lost at) = Unit {0}

-- a call has at most one Ssync head, and that is its first
pub record EventsOk (es : Events) : Type 0 where
  pub first : EventOk es.first
  pub second : LaterOk es.second
  pub third : LaterOk es.third

-- the slot that they complete
abbrev pub DueOk : Option WholeSlot → Type 0
DueOk None = Unit {0}
DueOk (Some w) = WholeOk w

-- ---- a symbol, looked at before anything is written; level is the accumulator of its position
unfoldable pub window_by : Front → ℤ → ℤ → List ℤ → List ℤ
window_by a xi xq table = let z = rotated_of table a.nco.phase xi xq in window_after a.sync.win z.i z.q

unfoldable pub ahead_by : Receiver → ℤ → ℤ → List ℤ → List ℤ → List ℤ → ℕ → Ahead
ahead_by r xi xq f s table level =
    let w = window_by r.front xi xq table in
    let st = step_of 9296 r.front.sync.run (both_of w f s) level in
    record {
      win = w;
      step = st;
      heard = listened 9296 (record { nco = advanced_nco r.front.nco; phase = r.front.phase; due = None }) st.events;
    }

pub record AheadOk (r : Receiver) (f s table : List ℤ) : Type 0 where
  pub run : RunOk r.front.sync.run
  pub nco : NcoOk r.front.nco
  pub phase : PhaseOk r.front.phase
  pub first : ones_of f ≡ true
  pub second : ones_of s ≡ true
  pub long : length table ≡ 1024

-- ---- what it leaves, with this alignment
unfoldable pub left_by : Receiver → Ahead → Back → Option Held → Receiver
left_by r a b p =
    record {
      front = record { nco = a.heard.nco; sync = record { win = kept_window a.step.stores a.win; run = a.step.run }; phase = p };
      back = b;
      points = r.points;
    }

unfoldable pub phase_by : ℕ → Option Held → Option Held
phase_by t p = when leb 23 t then pushed_in 9296 p else p

unfoldable pub stored_by : ℕ → Option Held → ℤ → ℤ → List ℤ → List ℤ
stored_by t p i q store = when leb 23 t then stored_in 9296 p i q store else store

unfoldable pub after_by : Receiver → Ahead → Back → Receiver
after_by r a b =
    let left = left_by r a b (phase_by r.front.sync.run.t a.heard.phase) in
    when loses_in a.step.events then started (next_of r + 1) (kept_of left) else left

unfoldable pub store_by : Receiver → Ahead → List ℤ → List ℤ
store_by r a store =
    let z = symbol_at a.win 0 in
    when loses_in a.step.events then store else stored_by r.front.sync.run.t a.heard.phase z.i z.q store

unfoldable pub taken_by : Receiver → Ahead → Back → Runs → Answer
taken_by r a b runs = record { receiver = after_by r a b; events = a.step.events; runs = runs }

-- ---- the rest of its refusals, and all that it answers and leaves
unfoldable pub due_refusal : Receiver → Option WholeSlot → List ℤ → List ℤ → List ℤ → List ℤ → Result ⊤ Refusal
due_refusal r d f s table store = when slot_past 9296 d then Err Position else when overfull r.back (due_symbols 9296 d table store) f s then Err Counts else Ok tt

-- .. of a slot at a position, by what the alignment holds: a law says that this is the same
unfoldable pub slot_refusal : Back → ℕ → Result ⊤ Refusal
slot_refusal b at = when ltb (2 ^ 62) (at + 9296) then Err Position else when full_at b at then Err Counts else Ok tt

module _ (r : Receiver) (a : Ahead) (f s table store : List ℤ) where
  unfoldable pub later_refusal : Result ⊤ Refusal
  later_refusal = due_refusal r a.heard.due f s table store

  unfoldable pub symbols_by : List Corrected
  symbols_by = due_symbols 9296 a.heard.due table store

  unfoldable pub aligned_now : List AlignedSymbol
  aligned_now = aligned_all r.back symbols_by f s

  unfoldable pub accepted_by : Answer
  accepted_by = taken_by r a (after_all r.back symbols_by f s) (runs_of r.points (waiting_before r.back symbols_by) aligned_now)

  unfoldable pub answer_by : Result Answer (Refused Receiver)
  answer_by = answered later_refusal r accepted_by

  unfoldable pub acc_by : ℕ → List ℕ → List ℕ
  acc_by p acc = written later_refusal acc (stored_of a.step.stores p acc)

  unfoldable pub slot_store : List ℤ
  slot_store = written later_refusal store (store_by r a store)

  unfoldable pub soft_by : List ℤ → List ℤ
  soft_by soft = written later_refusal soft (written_on (soft_all r.points aligned_now) soft)
