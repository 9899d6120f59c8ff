-- THE TIE: for every list of pushes from a started sync, as long as none before has lost, the step's heads, periods, losses and records are exactly
-- what happened. After a loss the sync is a started one, so the same holds from the restart position on.
use Rattle.sync_heads.specs.declared.FrameHead.{FrameHead}
use Rattle.std.specs.Prelude.{ℕ, zero, suc, ◌+◌, ◌-◌, ◌≤◌, ◌<◌, true, false, List, ◌≡◌, length, get_or, replicate, drop, Option}
use Rattle.sync_step.specs.declared.Step.{Step}
use Rattle.sync_step.specs.Step.{place_of}
use Rattle.sync.specs.declared.SlotSync.{SlotSync}
use Rattle.sync.specs.Sync.{window_after, started_sync, stored_of, kept_window, symbol_of}
use Rattle.sync_tie.specs.Pushes.{Push, no_push}
use Rattle.sync_tie.specs.Stretch.{loses_at, tells, record_before, record_at}

-- a sync with its accumulators
pub record Held : Type 0 where
  pub sync : SlotSync
  pub acc : List ℕ

abbrev pub step_on : ℕ → Held → Push → Step
step_on n x p = symbol_of n x.sync p.i p.q p.f p.w x.acc

-- an accepted push: what `push` leaves (crate sync, accepted_push and accepted_acc, for n = 9,296)
unfoldable pub push_on : ℕ → Held → Push → Held
push_on n x p =
    let st = step_on n x p in
    record {
      sync = record { win = kept_window st.stores (window_after x.sync.win p.i p.q); run = st.run };
      acc = stored_of st.stores (place_of n x.sync.run.t) x.acc;
    }

-- the first m pushes of a list
unfoldable pub pushes : ℕ → Held → List Push → ℕ → Held
pushes n x h zero = x
pushes n x h (suc m) = push_on n (pushes n x h m) (get_or h m no_push)

-- a started sync with its accumulators at zero
abbrev pub begun : ℕ → ℕ → Option FrameHead → Held
begun n base last = record { sync = started_sync base last; acc = replicate n 0 }

-- no position of the first m pushes has lost
abbrev pub Kept : ℕ → ℕ → Option FrameHead → List Push → ℕ → Type 0
Kept n base last h m = (c : ℕ) → c + 23 < m → loses_at n base last h c ≡ false

-- push m of h, after m pushes that did not lose, in a stretch that began at base with this record
pub record Tells (n base : ℕ) (last : Option FrameHead) (h : List Push) (m : ℕ) : Type 0 where
  -- m symbols have been taken, and the frame record is that of the readings so far
  pub time : (pushes n (begun n base last) h m).sync.run.t ≡ m
  pub record_is : (pushes n (begun n base last) h m).sync.run.course.last ≡ record_before n base last h (m - 23)
  -- the events of push m are what happened, nothing more and nothing less
  pub events : (step_on n (pushes n (begun n base last) h m) (get_or h m no_push)).events ≡ tells n base last h m
  -- a loss leaves a started sync at the next symbol's position, with the record so far, and zeroes the accumulators
  pub loss : 23 ≤ m → loses_at n base last h (m - 23) ≡ true → pushes n (begun n base last) h (suc m) ≡ begun n (base + suc m) (record_at n base last h (m - 23))

abbrev pub Tie : Type 0
Tie = (n base : ℕ) (last : Option FrameHead) (h : List Push) (m : ℕ) → 0 < n → m < length h → Kept n base last h m → Tells n base last h m

-- a list of pushes may be cut anywhere: after a loss the rest is a stretch of its own
abbrev pub Cut : Type 0
Cut = (n : ℕ) (x : Held) (h : List Push) (m j : ℕ) → m + j ≤ length h → pushes n x h (m + j) ≡ pushes n (pushes n x h m) (drop m h) j
