-- What a stretch of pushes comes to, by the rules of sync_history: it begins at a position, with the frame record kept from before, and its accumulators at
-- zero. n is the period. No state stands here: lock, readings, heads, periods, losses and records are functions of the pushes.
use Rattle.sync_heads.specs.declared.FrameHead.{FrameHead}
use Rattle.std.specs.Prelude.{ℕ, suc, ◌+◌, ◌-◌, ◌*◌, ◌/◌, ◌%◌, Bool, true, false, ◌&&◌, ◌||◌, List, ◌≡◌, eqb, ltb, Option, None, Some}
use Rattle.laws.specs.Choice.{when◌then◌else◌}
use Rattle.sync_corr.specs.declared.Both.{Both}
use Rattle.sync_step.specs.declared.SyncStats.{SyncStats}
use Rattle.sync_step.specs.declared.Event.TheVariants.{Nothing, Period, Lost}
use Rattle.sync_step.specs.declared.Events.{Events}
use Rattle.sync_step.specs.Events.{no_events, event_of, then_of}
use Rattle.sync_history.specs.History.{LockIn, figures, lock_in, eighth_at}
use Rattle.sync_history.specs.Heads.{MarkerLoss, capped, ssync_odd, markers_lose, strays_to, misses_to, record_to, first_told, second_told}
use Rattle.sync_tie.specs.Pushes.{Push, both_at, size_at}

-- the loss by markers: a lock fell with a period at a place, position c is a reading of that place, and its head is the second in a row without its mark
pub record LostByMarkers (n : ℕ) (h : List Push) (c : ℕ) : Type 0 where
  pub place : ℕ
  pub period : ℕ
  pub falls : LockIn n (size_at h) place period
  pub number : ℕ
  pub reading : c ≡ (period + 1 + number) * n + place
  pub second : MarkerLoss (λ i. both_at h ((period + 1 + i) * n + place)) number

-- "Offset 9,295 and a marker loss: `lost`, then a `period` of zeros."
unfoldable pub zeros : SyncStats
zeros = record { peak = 0; peak_pos = 0; sum = 0; offset = None; ssync_odd = false; stray_markers = 0; missed_markers = 0 }

module _ (n base : ℕ) (last : Option FrameHead) (h : List Push) where
  -- ---- the lock while position c is completed: it has fallen with a whole period before, at that period's peak
  unfoldable pub lock_before : ℕ → Option ℕ
  lock_before c = lock_in n (size_at h) (c / n)

  unfoldable pub place_in : ℕ → ℕ
  place_in k = (figures n (size_at h) k).place

  -- ---- readings, of a lock that fell with period k
  -- "A reading is a later symbol that completes a window at that position"
  unfoldable pub reads_in : ℕ → ℕ → Bool
  reads_in k c = eqb (c % n) (place_in k)

  -- how many readings the first c positions hold: one in each whole period after the lock's, and one in the running period once the place is behind. So
  -- a reading's own number, counted from 0
  unfoldable pub count_in : ℕ → ℕ → ℕ
  count_in k c = c / n - suc k + (when ltb (place_in k) (c % n) then 1 else 0)

  -- reading i, the correlations of its window, and the position of reading 0
  unfoldable pub both_in : ℕ → ℕ → Both
  both_in k i = both_at h ((k + 1 + i) * n + place_in k)

  unfoldable pub start_in : ℕ → ℕ
  start_in k = base + ((k + 1) * n + place_in k)

  -- ---- what position c comes to with the lock that has fallen, if one has
  -- a reading whose head is the second in a row without its mark
  unfoldable pub markers_in : Option ℕ → ℕ → Bool
  markers_in None c = false
  markers_in (Some k) c = reads_in k c && markers_lose (both_in k) (count_in k c)

  -- the heads that a reading tells
  unfoldable pub heads_in : Option ℕ → ℕ → Events
  heads_in None c = no_events
  heads_in (Some k) c =
      let i = count_in k c in
      when reads_in k c
      then record { first = event_of (first_told n (start_in k) last (both_in k) i); second = event_of (second_told n (start_in k) last (both_in k) i); third = Nothing }
      else no_events

  -- its period is an eighth other one in a row
  unfoldable pub eighth_in : Option ℕ → ℕ → Bool
  eighth_in None c = false
  eighth_in (Some k) c = eighth_at n (size_at h) k (c / n)

  -- the frame record of the readings among the first c positions
  unfoldable pub record_in : Option ℕ → ℕ → Option FrameHead
  record_in None c = last
  record_in (Some k) c = record_to n (start_in k) last (both_in k) (count_in k c)

  -- the statistics of the period that ends with position c: figures, lock, and of the readings so far the parity, known from the second on, and the counters
  unfoldable pub stats_in : Option ℕ → ℕ → SyncStats
  stats_in None c =
      let y = figures n (size_at h) (c / n) in
      record { peak = y.peak; peak_pos = y.place; sum = y.sum; offset = None; ssync_odd = false; stray_markers = 0; missed_markers = 0 }
  stats_in (Some k) c =
      let y = figures n (size_at h) (c / n) in
      let i = count_in k (suc c) in
      record {
        peak = y.peak;
        peak_pos = y.place;
        sum = y.sum;
        offset = Some (place_in k);
        ssync_odd = (when ltb i 2 then false else ssync_odd (both_in k));
        stray_markers = capped (strays_to (both_in k) i);
        missed_markers = capped (misses_to (both_in k) i);
      }

  -- ---- losses: with the lock before position c
  unfoldable pub markers_lose_at : ℕ → Bool
  markers_lose_at c = markers_in (lock_before c) c

  -- position c is its period's last
  unfoldable pub ends_at : ℕ → Bool
  ends_at c = eqb (c % n) (n - 1)

  unfoldable pub eighth_ends : ℕ → Bool
  eighth_ends c = eighth_in (lock_before c) c

  -- position c loses: by markers, or as the end of such a period
  unfoldable pub loses_at : ℕ → Bool
  loses_at c = markers_lose_at c || (ends_at c && eighth_ends c)

  -- ---- the frame record of the first c positions; and that which a loss at position c keeps: "the last frame record", which the losing head is not
  unfoldable pub record_before : ℕ → Option FrameHead
  record_before c = record_in (lock_before c) c

  unfoldable pub record_at : ℕ → Option FrameHead
  record_at c = when markers_lose_at c then record_before c else record_before (suc c)

  -- ---- what the symbol that completes position c tells: its heads, then a loss with the restart position, the next symbol's, or the period's end with
  -- its figures and the lock after it. A marker loss on a period's last position is followed by a period of zeros.
  unfoldable pub heads_at : ℕ → Events
  heads_at c = heads_in (lock_before c) c

  unfoldable pub stats_at : ℕ → SyncStats
  stats_at c = stats_in (lock_before (suc c)) c

  unfoldable pub told_at : ℕ → Events
  told_at c =
      let heads = heads_at c in
      let lost = then_of heads (Lost (base + c + 24)) in
      when markers_lose_at c
      then when ends_at c then then_of lost (Period zeros) else lost
      else when ends_at c
      then when eighth_ends c then lost else then_of heads (Period (stats_at c))
      else heads

  -- what push m, counted from 0, tells: the first 23 complete no window
  unfoldable pub tells : ℕ → Events
  tells m = when ltb m 23 then no_events else told_at (m - 23)
