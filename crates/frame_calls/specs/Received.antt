-- What an alignment has received, by its calls alone: no alignment and no equaliser stands in here.
use Rattle.std.specs.Prelude.{ℕ, ◌+◌, ◌-◌, ◌^◌, max, Bool, true, false, not, ◌&&◌, List, [], ◌∷◌, ◌++◌, leb, ltb, ℤ, length, take, drop, Option, None, Some, Result, Ok, Err, ⊤}
use Rattle.laws.specs.Choice.{when◌then◌else◌}
use Rattle.refusal.specs.Refusals.{written}
use Rattle.refusal.specs.declared.Refusal.{Refusal}
use Rattle.refusal.specs.declared.Refusal.TheVariants.{Words, Arithmetic, Position, Counts}
use Rattle.fx.specs.Answers.{wide}
use Rattle.sync_corr.specs.Correlate.{ones_of}
use Rattle.phase.specs.declared.Corrected.{Corrected}
use Rattle.frame_map.specs.Map.{part_of}
use Rattle.frame_line.specs.Line.{gap_at}
use Rattle.frame.specs.Align.{is_sync}
use Rattle.frame_calls.specs.Calls.{Call, pushes, restarts, opens, closes, loads}

-- "training calls, which open or end sums": none are open, or those of a frame, opened when this many symbols of the stretch had come
pub data Opening : Type 0 where
  none : Opening
  since : ℕ → ℕ → Opening

pub record Received : Type 0 where
  -- the accepted symbols since the last gap or restart, in their order
  pub stretch : List Corrected
  pub sums : Opening

unfoldable pub nothing : Received
nothing = record { stretch = []; sums = none }

unfoldable pub is_open : Opening → Bool
is_open none = false
is_open (since frame n) = true

-- 0 where none are
unfoldable pub frame_of : Opening → ℕ
frame_of none = 0
frame_of (since frame n) = frame

-- ---- the count
-- "A corrected slot is aligned as in `Back::push`, five symbols late" (The receiver): how many are, once n of a stretch have come
unfoldable pub aligned_by : ℕ → ℕ
aligned_by n = n - 5

-- "24 sync, 32 pilot, .." (The receiver): the sync symbols among these
unfoldable pub syncs_in : List Corrected → ℕ
syncs_in [] = 0
syncs_in (c ∷ cs) = (when is_sync (part_of c.j) then 1 else 0) + syncs_in cs

-- "training ignored while the line holds under 11 symbols or no sums are open" (Refusals): with sums opened after the n-th symbol, what was
-- aligned up to that one, and up to the tenth
unfoldable pub ignored_to : ℕ → ℕ
ignored_to n = aligned_by (max n 10)

-- "With sums open, sync symbols train" (The receiver)
unfoldable pub trained_by : Opening → List Corrected → ℕ
trained_by none xs = 0
trained_by (since frame n) xs = syncs_in (drop (ignored_to n) (take (aligned_by (length xs)) xs))

unfoldable pub trained_since : Received → ℕ
trained_since h = trained_by h.sums h.stretch

-- ---- one call
unfoldable pub last_of : List Corrected → Option ℕ
last_of [] = None
last_of (c ∷ []) = Some c.at
last_of (c ∷ d ∷ ds) = last_of (d ∷ ds)

-- a restart, "equaliser and alignment" (The receiver), drops the symbols and open sums; and so does a gap
unfoldable pub dropped : Received → Received
dropped h = record { stretch = []; sums = none }

-- what a symbol at its position joins, and with it
unfoldable pub joining : Received → Corrected → Received
joining h c = when gap_at (last_of h.stretch) c.at then dropped h else h

unfoldable pub joined_by : Received → Corrected → Received
joined_by h c = record { stretch = h.stretch ++ c ∷ []; sums = h.sums }

-- 8, "training count 4,194,304 .. before any addition the call would make" (Refusals)
unfoldable pub full_for : Received → Corrected → Bool
full_for h c = ltb (trained_since h) (trained_since (joined_by h c)) && leb 4194304 (trained_since h)

-- 2, an entry of a word; 6, "slot index over 9,295", a gain of size over 2^60; 7, at 2^62 or more; 8 (Refusals)
unfoldable pub push_refused : Received → Corrected → List ℤ → List ℤ → Result ⊤ Refusal
push_refused h c f s =
    when ones_of f && ones_of s
    then when ltb c.j 9296 && not (wide c.gain)
    then when leb (2 ^ 62) c.at then Err Position else when full_for (joining h c) c then Err Counts else Ok tt
    else Err Arithmetic
    else Err Words

-- no other call is refused
unfoldable pub refused_by : Received → Call → Result ⊤ Refusal
refused_by h (pushes c f s) = push_refused h c f s
refused_by h restarts = Ok tt
refused_by h (opens frame) = Ok tt
refused_by h closes = Ok tt
refused_by h (loads taps frame) = Ok tt

unfoldable pub heard : Received → Call → Received
heard h (pushes c f s) = written (push_refused h c f s) h (joined_by (joining h c) c)
heard h restarts = dropped h
heard h (opens frame) = record { stretch = h.stretch; sums = since frame (length h.stretch) }
heard h closes = record { stretch = h.stretch; sums = none }
heard h (loads taps frame) = h

-- .. and after several
unfoldable pub heard_all : Received → List Call → Received
heard_all h [] = h
heard_all h (c ∷ cs) = heard_all (heard h c) cs

unfoldable pub received : List Call → Received
received cs = heard_all nothing cs
