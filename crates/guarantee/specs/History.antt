-- What happened, from the calls alone: types of a receiver's state stand here, but no receiver's state. A history is that of the stretch that runs: since
-- the new receiver, the last loss or the last accepted restart.
use Rattle.sync_heads.specs.declared.FrameHead.{FrameHead}
use Rattle.std.specs.Prelude.{ℕ, zero, suc, ◌+◌, ◌-◌, ◌^◌, Bool, true, false, ◌&&◌, List, [], ◌∷◌, ◌++◌, eqb, leb, ltb, ℤ, length, Option, Some}
use Rattle.laws.specs.Choice.{when◌then◌else◌}
use Rattle.sync_corr.specs.Correlate.{ones_of}
use Rattle.sync_step.specs.declared.Event.{Event}
use Rattle.sync_step.specs.declared.Event.TheVariants.{Nothing, Head, Period, Lost}
use Rattle.sync_step.specs.declared.Events.{Events}
use Rattle.sync_step.specs.Events.{no_events}
use Rattle.sync_tie.specs.Pushes.{Push}
use Rattle.sync_tie.specs.Stretch.{loses_at, tells, record_before, record_at}
use Rattle.sync_tie.specs.Claims.{any_head}
use Rattle.carrier.specs.declared.Nco.{Nco}
use Rattle.carrier.specs.Carrier.{started_nco, rotated_of, advanced_nco, heard_of}
use Rattle.demap.specs.Answers.{bad_points, bad_scale}
use Rattle.receiver_slot.specs.declared.AlignedRun.{AlignedRun}
use Rattle.receiver_slot.specs.declared.Points.{Points}
use Rattle.receiver_slot.specs.declared.Runs.{Runs}
use Rattle.receiver_slot.specs.Slot.{no_run}
use Rattle.receiver.specs.declared.Kept.{Kept}
use Rattle.receiver.specs.Symbol.{Input}
use Rattle.receiver.specs.Answers.{loaded_points, no_runs}
use Rattle.guarantee.specs.Calls.{Accumulators, SlotStore, Call}
use Rattle.guarantee.specs.Calls.{symbol, points, taps, opens, ends, restarts, own, wrong}

-- open sums: the frame that they were opened for, and how many symbols have trained since
pub data Training : Type 0 where
  none : Training
  since : (frame : ℕ) (count : ℕ) → Training

pub record History : Type 0 where
  -- the position of the stretch's first symbol, and the frame record kept from before
  pub base : ℕ
  pub last : Option FrameHead
  -- its accepted symbols, rotated by the carrier, each with the words that were lent with it
  pub pushes : List Push
  -- the carrier: phase and step, and the differences of Ssync heads so far
  pub carrier : Nco
  -- the taps last accepted, with their frame, or the identity; the points and k last accepted
  pub taps : List ℤ
  pub from : Option ℕ
  pub points : Points
  pub sums : Training

-- a stretch begins
unfoldable pub begins_with : ℕ → Kept → History
begins_with at k =
    record {
      base = at;
      last = k.last;
      pushes = [];
      carrier = started_nco k.phase k.freq;
      taps = k.taps;
      from = k.from;
      points = k.points;
      sums = none;
    }

-- the position of the next symbol
unfoldable pub next_in : History → ℕ
next_in h = h.base + length h.pushes

-- ---- an accepted symbol
-- "rotate": by the carrier of the history
unfoldable pub push_of : History → Input → Push
push_of h x =
    let y = rotated_of x.table h.carrier.phase x.xi x.xq in
    record { i = y.i; q = y.q; f = x.f; w = x.s }

-- the stretch with it
unfoldable pub with_symbol : History → Input → List Push
with_symbol h x = h.pushes ++ (push_of h x ∷ [])

-- what its symbols tell with it: heads, a period's end, a loss (crate sync_tie, Stretch)
unfoldable pub events_with : History → Input → Events
events_with h x = tells 9296 h.base h.last (with_symbol h x) (length h.pushes)

-- it loses, by markers or by periods
unfoldable pub loses_with : History → Input → Bool
loses_with h x = leb 23 (length h.pushes) && loses_at 9296 h.base h.last (with_symbol h x) (length h.pushes - 23)

-- "each head to `Nco`", after its phase was used and advanced
unfoldable pub heard_event : Nco → Event → Nco
heard_event c Nothing = c
heard_event c (Head g) = (heard_of c g).nco
heard_event c (Period p) = c
heard_event c (Lost at) = c

unfoldable pub heard_events : Nco → Events → Nco
heard_events c es = heard_event (heard_event (heard_event c es.first) es.second) es.third

unfoldable pub carrier_with : History → Input → Nco
carrier_with h x = heard_events (advanced_nco h.carrier) (events_with h x)

-- ---- trainings
-- of m symbols of a stretch, those that told a head
unfoldable pub told_to : ℕ → Option FrameHead → List Push → ℕ → ℕ
told_to base last ps zero = 0
told_to base last ps (suc m) = told_to base last ps m + (when any_head (tells 9296 base last ps m) then 1 else 0)

-- the trainings of a symbol: a head after another completes a slot of 9,296. The first slot of a stretch trains on sync symbols 5 to 23, as the line holds
-- 11 symbols from symbol 5 on; each later one on all 24
unfoldable pub trainings_with : History → Input → ℕ
trainings_with h x =
    let k = told_to h.base h.last h.pushes (length h.pushes) in
    when any_head (events_with h x) then when eqb k 0 then 0 else when eqb k 1 then 19 else 24 else 0

unfoldable pub trained_by : Training → ℕ → Training
trained_by none k = none
trained_by (since frame m) k = since frame (m + k)

-- "training count 4,194,304 .. before any addition the call would make (a receiver's symbol: any of its trainings)"
unfoldable pub full_by : Training → ℕ → Bool
full_by none k = false
full_by (since frame m) k = ltb 4194304 (m + k)

-- ---- kept values, as they are now; "last frame record": that of the readings so far
unfoldable pub kept_in : History → Kept
kept_in h =
    record {
      phase = h.carrier.phase;
      freq = h.carrier.freq;
      taps = h.taps;
      from = h.from;
      points = h.points;
      last = record_before 9296 h.base h.last h.pushes (length h.pushes - 23);
    }

-- the history with a symbol that does not lose ..
unfoldable pub goes_on : History → Input → History
goes_on h x =
    record {
      base = h.base;
      last = h.last;
      pushes = with_symbol h x;
      carrier = carrier_with h x;
      taps = h.taps;
      from = h.from;
      points = h.points;
      sums = trained_by h.sums (trainings_with h x);
    }

-- .. and with one that does: "as the losing call leaves them"; the record is that of the last frame head so far
unfoldable pub kept_over : History → Input → Kept
kept_over h x =
    let c = carrier_with h x in
    record {
      phase = c.phase;
      freq = c.freq;
      taps = h.taps;
      from = h.from;
      points = h.points;
      last = record_at 9296 h.base h.last (with_symbol h x) (length h.pushes - 23);
    }

unfoldable pub takes : History → Input → History
takes h x = when loses_with h x then begins_with (next_in h + 1) (kept_over h x) else goes_on h x

-- ---- every call
-- 1, "stores that give 1"; a soft buffer under 44,880
unfoldable pub own_acc : Accumulators → Bool
own_acc own = true
own_acc (wrong acc e) = false

unfoldable pub own_store : SlotStore → Bool
own_store own = true
own_store (wrong store e) = false

-- the refusal: by what the call is given, by the position of its symbol and by the count of trainings. A receiver's own numbers are never out of range
unfoldable pub refusal_in : History → Call → ℕ
refusal_in h (symbol x a b soft) =
    when own_acc a && own_store b && leb 44880 (length soft)
    then when ones_of x.f && ones_of x.s
    then when eqb (length x.table) 1024
    then when leb (2 ^ 62) (next_in h) then 7 else when full_by h.sums (trainings_with h x) then 8 else 0
    else 3
    else 2
    else 1
refusal_in h (points bits ps k) = when bad_points bits (length ps) then 4 else when bad_scale k then 5 else 0
refusal_in h (taps ts frame) = 0
refusal_in h (opens frame) = 0
refusal_in h ends = 0
refusal_in h (restarts at a) = when own_acc a then when ltb at (next_in h) then 7 else 0 else 1

-- what an accepted call makes of the history
unfoldable pub accepts : History → Call → History
accepts h (symbol x a b soft) = takes h x
accepts h (points bits ps k) =
    record { base = h.base; last = h.last; pushes = h.pushes; carrier = h.carrier; taps = h.taps; from = h.from; points = loaded_points bits ps k; sums = h.sums }
accepts h (taps ts frame) =
    record { base = h.base; last = h.last; pushes = h.pushes; carrier = h.carrier; taps = ts; from = Some frame; points = h.points; sums = h.sums }
accepts h (opens frame) =
    record { base = h.base; last = h.last; pushes = h.pushes; carrier = h.carrier; taps = h.taps; from = h.from; points = h.points; sums = since frame 0 }
accepts h ends =
    record { base = h.base; last = h.last; pushes = h.pushes; carrier = h.carrier; taps = h.taps; from = h.from; points = h.points; sums = none }
accepts h (restarts at a) = begins_with at (kept_in h)

-- refused calls change nothing
unfoldable pub happens : History → Call → History
happens h c = when eqb (refusal_in h c) 0 then accepts h c else h

unfoldable pub happen_all : History → List Call → History
happen_all h [] = h
happen_all h (c ∷ cs) = happen_all (happens h c) cs

-- a call loses: an accepted symbol that does
unfoldable pub loses_by : History → Call → Bool
loses_by h (symbol x a b soft) = eqb (refusal_in h (symbol x a b soft)) 0 && loses_with h x
loses_by h (points bits ps k) = false
loses_by h (taps ts frame) = false
loses_by h (opens frame) = false
loses_by h ends = false
loses_by h (restarts at a) = false

-- a call ends the stretch: it loses, or is an accepted restart
unfoldable pub ends_stretch : History → Call → Bool
ends_stretch h (symbol x a b soft) = loses_by h (symbol x a b soft)
ends_stretch h (points bits ps k) = false
ends_stretch h (taps ts frame) = false
ends_stretch h (opens frame) = false
ends_stretch h ends = false
ends_stretch h (restarts at a) = eqb (refusal_in h (restarts at a)) 0

-- the events of a call: an accepted symbol's
unfoldable pub events_in : History → Call → Events
events_in h (symbol x a b soft) = when eqb (refusal_in h (symbol x a b soft)) 0 then events_with h x else no_events
events_in h (points bits ps k) = no_events
events_in h (taps ts frame) = no_events
events_in h (opens frame) = no_events
events_in h ends = no_events
events_in h (restarts at a) = no_events

-- ---- runs: "A corrected slot is aligned .. five symbols late". A head after another one of its stretch completes the slot of 9,296 that began with that one; all of
-- it but its last five come out, behind the last five of the slot before, which are its symbols 9,291 to 9,295. The bits are those of the points last loaded.
-- the position of that slot's first symbol: the call's symbol, the next, is the last of the 24 with which the next slot begins
unfoldable pub slot_at : History → ℕ
slot_at h = next_in h - 23 - 9296

unfoldable pub run_in : History → (at j count : ℕ) → AlignedRun
run_in h at j count = record { at = at; j = j; count = count; bits = h.points.bits }

unfoldable pub runs_with : History → Runs
runs_with h =
    let k = told_to h.base h.last h.pushes (length h.pushes) in
    let tail = when eqb k 1 then no_run else run_in h (slot_at h - 5) 9291 5 in
    when eqb k 0 then no_runs else record { tail = tail; body = run_in h (slot_at h) 0 9291 }

unfoldable pub runs_in : History → Call → Runs
runs_in h c = when any_head (events_in h c) then runs_with h else no_runs

-- ---- the sums that a call gives back: an end's, if they were open
unfoldable pub ended_in : History → Call → Training
ended_in h (symbol x a b soft) = none
ended_in h (points bits ps k) = none
ended_in h (taps ts frame) = none
ended_in h (opens frame) = none
ended_in h ends = h.sums
ended_in h (restarts at a) = none

unfoldable pub is_open : Training → Bool
is_open none = false
is_open (since frame m) = true

unfoldable pub frame_of : Training → ℕ
frame_of none = 0
frame_of (since frame m) = frame

unfoldable pub count_of : Training → ℕ
count_of none = 0
count_of (since frame m) = m
