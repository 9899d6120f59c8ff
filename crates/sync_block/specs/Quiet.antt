-- What a quiet symbol does: only window, figures and one accumulator change. That this is what an accepted symbol does is a law
-- (proofs/Laws.antt, `symbol-quiet`).
use Rattle.std.specs.Prelude.{◌≡◌, false, List, ℕ, suc, ◌+◌, ◌^◌, ◌≤◌, ◌<◌, ℤ, get_or, set}
use Rattle.sync_corr.specs.Correlate.{size_of}
use Rattle.sync_corr.specs.Rows.{dots_of}
use Rattle.sync_lock.specs.declared.Tally.{Tally}
use Rattle.sync_lock.specs.Period.{leak_of, counted_of}
use Rattle.sync_lock.specs.Rule.{locked_at}
use Rattle.sync_step.specs.declared.Run.{Run}
use Rattle.sync_step.specs.Step.{place_of}
use Rattle.sync_step.specs.Ranges.{RunOk}
use Rattle.sync.specs.declared.SlotSync.{SlotSync}
use Rattle.sync.specs.Sync.{window_after}

pub record Rolled : Type 0 where
  pub win : List ℤ
  pub tally : Tally
  pub acc : List ℕ

abbrev pub rolled : List ℤ → Tally → List ℕ → Rolled
rolled v y a = record { win = v; tally = y; acc = a }

-- one symbol, which completes the window at place p
unfoldable pub roll_one : List ℤ → ℤ → ℤ → ℕ → Rolled → Rolled
roll_one rows i q p x =
    let v = window_after x.win i q in
    let a = leak_of (get_or x.acc p 0) (size_of (dots_of v rows)) in
    rolled v (counted_of x.tally p a) (set x.acc p a)

-- a sync after n of them, which left this window and these figures
abbrev pub passed_run : Run → List ℤ → ℕ → Tally → SlotSync
passed_run r v n y = record { win = v; run = record { base = r.base; t = r.t + n; tally = y; lock = r.lock; stage = r.stage; course = r.course } }

-- a run that is ready for k symbols, of which the last alone may be loud
pub record Ahead (r : Run) (k : ℕ) : Type 0 where
  pub ready : RunOk r
  pub some : 1 ≤ k
  pub late : 23 ≤ r.t
  pub sum : r.tally.sum ≤ 2 ^ 45
  pub time : r.base + r.t + k ≤ 2 ^ 62
  pub within : place_of 9296 r.t + k ≤ 9296
  pub silent : (j : ℕ) → suc j < k → locked_at r.lock (place_of 9296 r.t + j) ≡ false
