-- A stretch of pushes folded by the step's own rules: what stands between the step and the rules of specs/Stretch. Follow proves that the sync tells it,
-- Ruled that it is what Stretch says. Assumes nothing.
use Rattle.sync_heads.specs.declared.FrameHead.{FrameHead}
use Rattle.std.specs.Prelude.{None, Option}
use Prim.Native.Nat.{ℕ, zero, suc, ◌+◌, ◌-◌, ◌/◌, ◌%◌, ◌<◌}
use mathlib.Core.Bool.{Bool, true, false}
use mathlib.Core.List.{List}
use mathlib.Core.Path.{◌≡◌}
use lib.Dec.{eqb, ltb}
use lib.IntN.{pos}
use Rattle.laws.specs.Choice.{when◌then◌else◌}
use Rattle.sync_lock.specs.declared.Lock.{Lock}
use Rattle.sync_lock.specs.Rule.{rule_of, locked_at}
use Rattle.sync_heads.specs.declared.Stage.{Stage}
use Rattle.sync_heads.specs.declared.Stage.TheVariants.{Before}
use Rattle.sync_heads.specs.declared.Course.{Course}
use Rattle.sync_heads.specs.declared.Reading.{Reading}
use Rattle.sync_heads.specs.declared.Taken.{Taken}
use Rattle.sync_heads.specs.Heads.{read_of}
use Rattle.sync_step.specs.declared.SyncStats.{SyncStats}
use Rattle.sync_step.specs.declared.Event.TheVariants.{Period, Lost}
use Rattle.sync_step.specs.declared.Events.{Events}
use Rattle.sync_step.specs.Events.{no_events, heads_of, then_of}
use Rattle.sync_step.specs.Step.{started_of, stats_of, odd_of, locked_offset, is_locked, offset_of, loses_of}
use Rattle.sync_history.specs.History.{figures}
use Rattle.sync_history.specs.Claims.{lock_to}
use Rattle.sync_tie.specs.Pushes.{Push, both_at, size_at}

-- what the readings so far come to
pub record Heard : Type 0 where
  pub stage : Stage
  pub course : Course

module _ (n base : ℕ) (last : Option FrameHead) (h : List Push) where
  -- the lock while position c is completed: that of the whole periods before
  unfoldable pub lock_at : ℕ → Lock
  lock_at c = lock_to n (size_at h) (c / n)

  -- a reading is a position at the locked place
  unfoldable pub reads_at : ℕ → Bool
  reads_at c = locked_at (lock_at c) (c % n)

  unfoldable pub reading_at : ℕ → Reading
  reading_at c = record { at = base + c; both = both_at h c }

  -- the fold over the readings among the first c positions: words, majority, marks and numbers, by the rules of sync_heads
  unfoldable pub heard_to : ℕ → Heard
  heard_to zero = record { stage = Before; course = record { majority = pos 0; slot = None; last = last; misses = 0; stray = 0; missed = 0 } }
  heard_to (suc c) =
      let e = heard_to c in
      let k = read_of n e.stage e.course (reading_at c) in
      when reads_at c then record { stage = k.stage; course = k.course } else e

  -- what position c is taken for: a reading with its heads, or nothing
  unfoldable pub taken_at : ℕ → Taken
  taken_at c =
      let e = heard_to c in
      when reads_at c
      then read_of n e.stage e.course (reading_at c)
      else record { lost = false; stage = e.stage; course = e.course; first = None; second = None }

  -- position c is its period's last
  unfoldable pub ends_at : ℕ → Bool
  ends_at c = eqb (c % n) (n - 1)

  -- the period that ends with position c loses
  unfoldable pub period_loses : ℕ → Bool
  period_loses c = loses_of (rule_of n (lock_at c) (figures n (size_at h) (c / n)))

  -- position c loses: by the second missed marker, or by its period
  unfoldable pub loses_at : ℕ → Bool
  loses_at c = when (taken_at c).lost then true else when ends_at c then period_loses c else false

  -- the statistics of the period that ends with position c
  unfoldable pub stats_at : ℕ → SyncStats
  stats_at c =
      let y = figures n (size_at h) (c / n) in
      let k = lock_to n (size_at h) (suc (c / n)) in
      let e = taken_at c in
      record {
        peak = y.peak;
        peak_pos = y.place;
        sum = y.sum;
        offset = locked_offset k;
        ssync_odd = odd_of e.stage;
        stray_markers = e.course.stray;
        missed_markers = e.course.missed;
      }

  -- what the symbol that completes position c tells: its heads, then a loss with the restart position, the next symbol's, or the period's end. A
  -- marker loss on a period's last position is followed by a period of zeros.
  unfoldable pub told_at : ℕ → Events
  told_at c =
      let heads = heads_of (taken_at c) in
      let next = base + c + 24 in
      let lost = then_of heads (Lost next) in
      when (taken_at c).lost
      then when ends_at c then then_of lost (Period (stats_of (started_of next (taken_at c).course.last))) else lost
      else when ends_at c
      then when period_loses c then lost else then_of heads (Period (stats_at c))
      else heads

  -- what push m, counted from 0, tells: the first 23 complete no window
  unfoldable pub tells : ℕ → Events
  tells m = when ltb m 23 then no_events else told_at (m - 23)

  -- the frame record when position c has lost
  unfoldable pub record_at : ℕ → Option FrameHead
  record_at c = (taken_at c).course.last

-- no position of the first m pushes has lost
abbrev pub Kept : ℕ → ℕ → Option FrameHead → List Push → ℕ → Type 0
Kept n base last h m = (c : ℕ) → c + 23 < m → loses_at n base last h c ≡ false
