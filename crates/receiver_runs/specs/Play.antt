-- Calls of a receiver one after another, at a slot of any length, and what they tell. A call is taken as accepted: the ranges of a state hold at
-- 9,296 only.
use Rattle.sync_heads.specs.declared.SlotNumber.{SlotNumber}
use Rattle.std.specs.Prelude.{ℕ, zero, suc, ◌+◌, ◌*◌, ◌/◌, ◌%◌, Bool, true, false, List, [], ◌∷◌, ◌++◌, eqb, ltb, ℤ, pos, ◌-ℤ◌, length, replicate, Option, None, Some, is_some, unwrap_or}
use Rattle.laws.specs.Choice.{when◌then◌else◌, minus}
use Rattle.wire.specs.Wire.{bits}
use Rattle.digest.specs.Digest.{mixed_of}
use Rattle.angles.specs.declared.Symbol.{Symbol}
use Rattle.sync_heads.specs.declared.Word.{Word}
use Rattle.sync_heads.specs.declared.Word.TheVariants.{Ssync, Fsync, NotFsync}
use Rattle.sync_heads.specs.declared.Head.{Head as AHead}
use Rattle.sync_step.specs.declared.SyncStats.{SyncStats}
use Rattle.sync_step.specs.declared.Event.{Event}
use Rattle.sync_step.specs.declared.Event.TheVariants.{Nothing, Head, Period, Lost}
use Rattle.sync_step.specs.declared.Events.{Events}
use Rattle.sync_step.specs.Events.{is_nothing}
use Rattle.phase.specs.declared.Corrected.{Corrected}
use Rattle.sums.specs.declared.Sums.{Sums}
use Rattle.sums.specs.Sums.{empty_sums}
use Rattle.eq.specs.Eq.{with_sums, loaded_eq}
use Rattle.frame.specs.declared.AlignedSymbol.{AlignedSymbol}
use Rattle.receiver.specs.declared.Receiver.{Receiver}
use Rattle.receiver_slot.specs.declared.AlignedRun.{AlignedRun}
use Rattle.receiver_slot.specs.declared.Runs.{Runs}
use Rattle.receiver.specs.Started.{started, new_kept, kept_of}
use Rattle.receiver.specs.Symbol.{Input, Lent, synced, slot, aligned, runs, receiver_after, lent_after, next_of}
use Rattle.receiver.specs.Answers.{with_points, loaded_points, with_eq}

-- ---- calls
pub data Call : Type 0 where
  symbol : ℤ → ℤ → Call
  points : ℕ → List ℤ → ℤ → Call
  taps : List ℤ → ℕ → Call
  opens : ℕ → Call
  ends : Call
  restarts : ℕ → Call

-- n symbols of a number: 16 bits each, the first lowest; 128 more than I, then 128 more than Q
unfoldable pub unpacked : ℕ → ℕ → List Call → List Call
unpacked zero v rest = rest
unpacked (suc n) v rest = symbol (pos (v / 256 % 256) -ℤ pos 128) (pos (v % 256) -ℤ pos 128) ∷ unpacked n (v / 65536) rest

-- eight in each number
unfoldable pub eights : List ℕ → List Call
eights [] = []
eights (v ∷ vs) = unpacked 8 v (eights vs)

unfoldable pub repeated : ℕ → List Call → List Call
repeated zero cs = []
repeated (suc n) cs = cs ++ repeated n cs

-- what all calls are lent, and from which symbol on what is told is shown
pub record Kit : Type 0 where
  pub n : ℕ
  pub f : List ℤ
  pub s : List ℤ
  pub table : List ℤ
  pub from : ℕ

-- n numbers of 1 and -1 by the bits of v, the lowest first
unfoldable pub signs : ℕ → ℕ → List ℤ
signs zero v = []
signs (suc n) v = (when eqb (v % 2) 1 then pos 1 else minus 1) ∷ signs n (v / 2)

-- ---- a receiver with its stores; symbols so far; the digest of all that was told
pub record System : Type 0 where
  pub receiver : Receiver
  pub lent : Lent
  pub heard : ℕ
  pub digest : ℕ

-- a new receiver at a position, with a step; its soft buffer holds 85s
unfoldable pub begun : ℕ → ℕ → ℤ → ℕ → System
begun n at step soft =
    record {
      receiver = started at (new_kept step);
      lent = record { acc = replicate n 0; store = replicate (2 * n) (pos 0); soft = replicate soft (pos 85) };
      heard = 0;
      digest = 0;
    }

-- ---- what is told
pub data Told : Type 0 where
  -- by a symbol that has an event: symbols before it, events, aligned symbols, the soft buffer if a slot was corrected, and the digest of all
  -- that was told so far, with each corrected and each aligned symbol and the accumulators
  told : ℕ → Events → Runs → List ℤ → ℕ → Told
  -- by an end: whether sums were open, their frame and count, digests of their entries
  summed : Bool → ℕ → ℕ → ℕ → ℕ → Told
  -- at the list's end: symbols, the next position, the carrier's phase and step, the digest of the accumulators
  left : ℕ → ℕ → ℕ → ℤ → ℕ → Told

unfoldable pub head : ℕ → Word → ℤ → ℤ → ℕ → ℤ → Option SlotNumber → ℕ → Event
head at word re im theta amp slot nco =
    Head (record { at = at; word = word; corr = record { re = re; im = im }; theta = theta; amp = amp; slot = slot; nco_phase = nco })

unfoldable pub period : ℕ → ℕ → ℕ → Bool → ℕ → ℕ → ℕ → ℕ → Event
period peak place sum locked offset parity stray missed =
    Period (record {
      peak = peak;
      peak_pos = place;
      sum = sum;
      offset = (when locked then Some offset else None);
      ssync_odd = eqb parity 1;
      stray_markers = stray;
      missed_markers = missed;
    })

unfoldable pub one : Event → Events
one a = record { first = a; second = Nothing; third = Nothing }

unfoldable pub two : Event → Event → Events
two a b = record { first = a; second = b; third = Nothing }

unfoldable pub three : Event → Event → Event → Events
three a b c = record { first = a; second = b; third = c }

unfoldable pub run : ℕ → ℕ → ℕ → ℕ → AlignedRun
run at j count bits = record { at = at; j = j; count = count; bits = bits }

unfoldable pub both : AlignedRun → AlignedRun → Runs
both tail body = record { tail = tail; body = body }

-- ---- the digest: its numbers in order
unfoldable pub mixed : ℕ → List ℤ → ℕ
mixed d [] = d
mixed d (v ∷ vs) = mixed (mixed_of d (bits v)) vs

unfoldable pub integers : List ℕ → List ℤ
integers [] = []
integers (v ∷ vs) = pos v ∷ integers vs

unfoldable pub truth : Bool → ℤ
truth true = pos 1
truth false = pos 0

unfoldable pub word_number : Word → ℤ
word_number Ssync = pos 0
word_number Fsync = pos 1
word_number NotFsync = pos 2

unfoldable pub slot_numbers : Option SlotNumber → List ℤ → List ℤ
slot_numbers None rest = pos 0 ∷ pos 0 ∷ pos 0 ∷ rest
slot_numbers (Some s) rest = pos 1 ∷ pos s.number ∷ pos s.frame ∷ rest

unfoldable pub head_numbers : AHead → List ℤ
head_numbers h =
    pos 1
    ∷ pos h.at
    ∷ word_number h.word
    ∷ h.corr.re
    ∷ h.corr.im
    ∷ pos h.theta
    ∷ h.amp
    ∷ slot_numbers h.slot (pos h.nco_phase ∷ [])

unfoldable pub period_numbers : SyncStats → List ℤ
period_numbers p =
    pos 2
    ∷ pos p.peak
    ∷ pos p.peak_pos
    ∷ pos p.sum
    ∷ truth (is_some p.offset)
    ∷ pos (unwrap_or p.offset 0)
    ∷ truth p.ssync_odd
    ∷ pos p.stray_markers
    ∷ pos p.missed_markers
    ∷ []

unfoldable pub event_numbers : Event → List ℤ
event_numbers Nothing = pos 0 ∷ []
event_numbers (Head h) = head_numbers h
event_numbers (Period p) = period_numbers p
event_numbers (Lost at) = pos 3 ∷ pos at ∷ []

unfoldable pub events_numbers : Events → List ℤ
events_numbers es = event_numbers es.first ++ event_numbers es.second ++ event_numbers es.third

-- position, slot index, word, slot
unfoldable pub place_numbers : ℕ → ℕ → Word → Option SlotNumber → List ℤ → List ℤ
place_numbers at j word slot rest = pos at ∷ pos j ∷ word_number word ∷ slot_numbers slot rest

unfoldable pub symbol_numbers : Symbol → List ℤ → List ℤ
symbol_numbers z rest = z.i ∷ z.q ∷ rest

unfoldable pub corrected_numbers : List Corrected → List ℤ
corrected_numbers [] = []
corrected_numbers (c ∷ cs) =
    place_numbers c.at c.j c.word c.slot (symbol_numbers c.r (pos c.phi ∷ c.gain ∷ symbol_numbers c.y (corrected_numbers cs)))

unfoldable pub aligned_numbers : List AlignedSymbol → List ℤ
aligned_numbers [] = []
aligned_numbers (a ∷ rest) =
    place_numbers a.meta.at a.meta.j a.meta.word a.meta.slot (symbol_numbers a.z (aligned_numbers rest))

unfoldable pub run_numbers : AlignedRun → List ℤ
run_numbers r = pos r.at ∷ pos r.j ∷ pos r.count ∷ pos r.bits ∷ []

unfoldable pub runs_numbers : Runs → List ℤ
runs_numbers r = run_numbers r.tail ++ run_numbers r.body

-- ---- one symbol
unfoldable pub input_of : Kit → ℤ → ℤ → Input
input_of k i q = record { xi = i; xq = q; f = k.f; s = k.s; table = k.table }

unfoldable pub digested : ℕ → Events → List Corrected → List AlignedSymbol → Runs → Lent → ℕ
digested d es cs zs r l =
    mixed (mixed (mixed (mixed (mixed (mixed d (events_numbers es)) (corrected_numbers cs)) (aligned_numbers zs)) (runs_numbers r)) l.soft) (integers l.acc)

unfoldable pub shown_soft : List Corrected → Lent → List ℤ
shown_soft [] l = []
shown_soft (c ∷ cs) l = l.soft

-- what it leaves; a symbol without an event goes into no digest
unfoldable pub after_symbol : Kit → System → Input → System
after_symbol k y x =
    let n = k.n in
    let r = y.receiver in
    let l = y.lent in
    let es = (synced n r x l).events in
    let m = lent_after n r x l in
    record {
      receiver = receiver_after n r x l;
      lent = m;
      heard = y.heard + 1;
      digest = when is_nothing es.first then y.digest else digested y.digest es (slot n r x l) (aligned n r x l) (runs n r x l) m;
    }

-- .. and tells, if there is an event, in front of what is told later
unfoldable pub told_by : Kit → System → Input → System → List Told → List Told
told_by k y x z rest =
    let n = k.n in
    let r = y.receiver in
    let l = y.lent in
    let es = (synced n r x l).events in
    when is_nothing es.first
    then rest
    else when ltb y.heard k.from
    then rest
    else told y.heard es (runs n r x l) (shown_soft (slot n r x l) z.lent) z.digest ∷ rest

-- ---- other calls
unfoldable pub with_receiver : System → Receiver → System
with_receiver y r = record { receiver = r; lent = y.lent; heard = y.heard; digest = y.digest }

unfoldable pub opened : Receiver → Bool → ℕ → Receiver
opened r flag frame = with_eq r (with_sums r.back.eq flag (empty_sums frame))

unfoldable pub restarted : System → ℕ → System
restarted y at =
    record {
      receiver = started at (kept_of y.receiver);
      lent = record { acc = replicate (length y.lent.acc) 0; store = y.lent.store; soft = y.lent.soft };
      heard = y.heard;
      digest = y.digest;
    }

unfoldable pub sums_told : Bool → Sums → Told
sums_told true s = summed true s.frame s.count (mixed 0 s.r) (mixed 0 s.p)
sums_told false s = summed false 0 0 0 0

-- ---- all that a list of calls tells
unfoldable pub play : Kit → System → List Call → List Told
play k y [] =
    left y.heard (next_of y.receiver) y.receiver.front.nco.phase y.receiver.front.nco.freq (mixed 0 (integers y.lent.acc)) ∷ []
play k y (symbol i q ∷ cs) = let x = input_of k i q in let z = after_symbol k y x in told_by k y x z (play k z cs)
play k y (points bits ps scale ∷ cs) = play k (with_receiver y (with_points y.receiver (loaded_points bits ps scale))) cs
play k y (taps ts frame ∷ cs) = play k (with_receiver y (with_eq y.receiver (loaded_eq y.receiver.back.eq ts frame))) cs
play k y (opens frame ∷ cs) = play k (with_receiver y (opened y.receiver true frame)) cs
play k y (ends ∷ cs) =
    sums_told y.receiver.back.eq.opened y.receiver.back.eq.sums ∷ play k (with_receiver y (opened y.receiver false 0)) cs
play k y (restarts at ∷ cs) = play k (restarted y at) cs
