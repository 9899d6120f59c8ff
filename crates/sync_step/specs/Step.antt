-- What one symbol makes of a sync.
use Rattle.sync_heads.specs.declared.FrameHead.{FrameHead}
use Rattle.std.specs.Prelude.{ℕ, ◌+◌, ◌-◌, ◌%◌, Bool, true, false, eqb, ltb, pos, None, Option, Some}
use Rattle.laws.specs.Choice.{when◌then◌else◌}
use Rattle.sync_corr.specs.declared.Both.{Both}
use Rattle.sync_corr.specs.Correlate.{size_of}
use Rattle.sync_lock.specs.declared.Lock.{Lock}
use Rattle.sync_lock.specs.declared.Lock.TheVariants.{Search, Locked}
use Rattle.sync_lock.specs.declared.Verdict.{Verdict}
use Rattle.sync_lock.specs.declared.Verdict.TheVariants.{Seeks, Locks, Holds, Loses}
use Rattle.sync_lock.specs.Period.{leak_of, no_tally, counted_of}
use Rattle.sync_lock.specs.Rule.{rule_of, lock_after, locked_at}
use Rattle.sync_heads.specs.declared.Stage.{Stage}
use Rattle.sync_heads.specs.declared.Stage.TheVariants.{Before, First, Known}
use Rattle.sync_heads.specs.declared.Reading.{Reading}
use Rattle.sync_heads.specs.declared.Taken.{Taken}
use Rattle.sync_heads.specs.Heads.{read_of}
use Rattle.sync_step.specs.declared.Run.{Run}
use Rattle.sync_step.specs.declared.SyncStats.{SyncStats}
use Rattle.sync_step.specs.declared.Event.TheVariants.{Period, Lost}
use Rattle.sync_step.specs.declared.Events.{Events}
use Rattle.sync_step.specs.declared.Stores.TheVariants.{Nothing, One, Zeros}
use Rattle.sync_step.specs.declared.LastCorr.{LastCorr}
use Rattle.sync_step.specs.declared.Step.{Step}
use Rattle.sync_step.specs.Events.{no_events, no_corr, heads_of, then_of}

-- a new sync at a position; a restarted one "keeps the last frame record"
unfoldable pub started_of : ℕ → Option FrameHead → Run
started_of at last =
    record {
      base = at;
      t = 0;
      tally = no_tally;
      lock = Search 0 0;
      stage = Before;
      course = record { majority = pos 0; slot = None; last = last; misses = 0; stray = 0; missed = 0 };
    }

-- after t symbols the next one completes the window of position t - 23, counted in the period of n
unfoldable pub place_of : ℕ → ℕ → ℕ
place_of n t = (t - 23) % n

unfoldable pub reading_of : Run → Both → Reading
reading_of r b = record { at = r.base + r.t - 23; both = b }

-- a window at the locked position is a reading
unfoldable pub taken_of : ℕ → Run → ℕ → Both → Taken
taken_of n r p b =
    when locked_at r.lock p
    then read_of n r.stage r.course (reading_of r b)
    else record { lost = false; stage = r.stage; course = r.course; first = None; second = None }

-- the run after a symbol at position p whose accumulator is now a
unfoldable pub after_of : Run → ℕ → ℕ → Taken → Run
after_of r p a k =
    record { base = r.base; t = r.t + 1; tally = counted_of r.tally p a; lock = r.lock; stage = k.stage; course = k.course }

-- ---- losses: "A loss restarts at the next symbol's position and keeps the last frame record. New and restarted syncs zero the accumulators."
unfoldable pub lost_of : ℕ → Option FrameHead → Events → Step
lost_of at last es = record { run = started_of at last; stores = Zeros; last = no_corr; events = then_of es (Lost at) }

-- ---- a period's end
-- the parity of the heads that carry Ssync; 0 while it is not known
unfoldable pub parity_of : Stage → ℕ
parity_of Before = 0
parity_of (First z) = 0
parity_of (Known p) = when p.odd then 1 else 0

unfoldable pub odd_of : Stage → Bool
odd_of Before = false
odd_of (First z) = false
odd_of (Known p) = p.odd

unfoldable pub is_locked : Lock → Bool
is_locked (Search cand count) = false
is_locked (Locked offset misses) = true

unfoldable pub offset_of : Lock → ℕ
offset_of (Search cand count) = 0
offset_of (Locked offset misses) = offset

unfoldable pub locked_offset : Lock → Option ℕ
locked_offset (Search cand count) = None
locked_offset (Locked offset misses) = Some offset

unfoldable pub stats_of : Run → SyncStats
stats_of r =
    record {
      peak = r.tally.peak;
      peak_pos = r.tally.place;
      sum = r.tally.sum;
      offset = locked_offset r.lock;
      ssync_odd = odd_of r.stage;
      stray_markers = r.course.stray;
      missed_markers = r.course.missed;
    }

-- "Offset 9,295 and a marker loss: `lost`, then a `period` of zeros."
unfoldable pub lost_at_end : ℕ → Option FrameHead → Events → Step
lost_at_end at last es =
    let s = lost_of at last es in
    record { run = s.run; stores = Zeros; last = s.last; events = then_of s.events (Period (stats_of s.run)) }

unfoldable pub loses_of : Verdict → Bool
loses_of (Seeks cand count) = false
loses_of (Locks offset) = false
loses_of (Holds offset misses) = false
loses_of Loses = true

unfoldable pub with_lock : Run → Lock → Run
with_lock r k = record { base = r.base; t = r.t; tally = r.tally; lock = k; stage = r.stage; course = r.course }

-- the accumulator is stored
unfoldable pub kept_of : Run → LastCorr → Events → Step
kept_of r last es = record { run = r; stores = One last.level; last = last; events = es }

unfoldable pub ended_of : ℕ → Run → LastCorr → Events → Step
ended_of n r last es =
    let v = rule_of n r.lock r.tally in
    let k = with_lock r (lock_after v) in
    when loses_of v then lost_of (r.base + r.t) r.course.last es else kept_of k last (then_of es (Period (stats_of k)))

-- ---- a symbol that completes a window, of these correlations, where the accumulator was a; the head comes before the period's end
unfoldable pub late_of : ℕ → Run → Both → ℕ → Step
late_of n r b a =
    let p = place_of n r.t in
    let level = leak_of a (size_of b) in
    let k = taken_of n r p b in
    let last : LastCorr = record { both = b; level = level } in
    let next = r.base + r.t + 1 in
    when k.lost
    then when eqb p (n - 1) then lost_at_end next k.course.last (heads_of k) else lost_of next k.course.last (heads_of k)
    else when eqb p (n - 1) then ended_of n (after_of r p level k) last (heads_of k) else kept_of (after_of r p level k) last (heads_of k)

-- one of the first 23 symbols completes none
unfoldable pub early_of : Run → Step
early_of r =
    record {
      run = record { base = r.base; t = r.t + 1; tally = r.tally; lock = r.lock; stage = r.stage; course = r.course };
      stores = Nothing;
      last = no_corr;
      events = no_events;
    }

unfoldable pub step_of : ℕ → Run → Both → ℕ → Step
step_of n r b a = when ltb r.t 23 then early_of r else late_of n r b a
