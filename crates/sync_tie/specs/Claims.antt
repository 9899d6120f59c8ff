-- What the slot sync alone is claimed to do, on what was pushed; proofs/Claims.antt proves it. All positions are counted from the stretch's first, and
-- `after m` is the sync after m pushes of a stretch of which none lost.
use Rattle.sync_heads.specs.declared.FrameHead.{FrameHead}
use Rattle.std.specs.Prelude.{ℕ, suc, ◌+◌, ◌-◌, ◌*◌, ◌≤◌, ◌<◌, Bool, true, false, ◌||◌, List, ◌⊎◌, ◌≡◌, length, replicate, Option, Result, Ok, Err, IsOk}
use Rattle.sync_step.specs.declared.Event.{Event}
use Rattle.sync_step.specs.declared.Event.TheVariants.{Nothing, Head, Period, Lost}
use Rattle.sync_step.specs.declared.Events.{Events}
use Rattle.sync_step.specs.Step.{is_locked, offset_of}
use Rattle.sync_history.specs.History.{LockIn, LockBy, LossBy, Premise}
use Rattle.sync.specs.declared.SlotSync.{SlotSync}
use Rattle.sync.specs.Sync.{started_sync}
use Rattle.sync.specs.Answers.{push_answer, push_acc, restart_answer, restart_acc, sync_left}
use Rattle.sync.specs.declared.Pushed.{Pushed}
use Rattle.refusal.specs.declared.Refused.{Refused}
use Rattle.sync_step.specs.Events.{no_events}
use Rattle.sync_tie.specs.Pushes.{Push, size_at}
use Rattle.sync_tie.specs.Stretch.{LostByMarkers, markers_lose_at, tells}
use Rattle.sync_tie.specs.Tie.{Held, step_on, push_on, pushes, begun, Kept}

-- ---- words about events
unfoldable pub is_head : Event → Bool
is_head Nothing = false
is_head (Head h) = true
is_head (Period p) = false
is_head (Lost at) = false

-- one of the events is a head
unfoldable pub any_head : Events → Bool
any_head es = is_head es.first || is_head es.second || is_head es.third

-- it is a head of the window that begins at this position
abbrev pub HeadAt : ℕ → Event → Type 0
HeadAt at Nothing = ⊥
HeadAt at (Head h) = h.at ≡ at
HeadAt at (Period p) = ⊥
HeadAt at (Lost to) = ⊥

module _ (n base : ℕ) (last : Option FrameHead) (h : List Push) where
  abbrev pub after : ℕ → Held
  after m = pushes n (begun n base last) h m

  -- after m symbols, none of which lost, the sync is locked at p exactly if the lock fell there on one of them
  pub record LockTold (m : ℕ) : Type 0 where
    pub locked : (p : ℕ) → LockBy n (size_at h) p m → (is_locked (after m).sync.run.lock ≡ true) × (offset_of (after m).sync.run.lock ≡ p)
    pub locked_only : is_locked (after m).sync.run.lock ≡ true → LockBy n (size_at h) (offset_of (after m).sync.run.lock) m

  -- "one without lock no head": a head comes only after a lock on an earlier symbol
  pub record HeadsAfterLock (m : ℕ) : Type 0 where
    pub after-lock : any_head (tells n base last h m) ≡ true → (p : ℕ) × LockBy n (size_at h) p m

  -- "A reading is a later symbol that completes a window at that position": reading j after the lock in period k at p, from 0, is position
  abbrev pub reading : ℕ → ℕ → ℕ → ℕ
  reading k p j = (k + 1 + j) * n + p

  -- "from the second later reading of that position on, every reading gives a head", of that very window, or loses by markers
  pub record ReadingsTell (k p j : ℕ) : Type 0 where
    pub head : markers_lose_at n base last h (reading k p (suc j)) ≡ false →
        HeadAt (base + reading k p (suc j)) (tells n base last h (reading k p (suc j) + 23)).first
        ⊎ HeadAt (base + reading k p (suc j)) (tells n base last h (reading k p (suc j) + 23)).second

-- ---- the claims
abbrev pub LockClaim : Type 0
LockClaim = (n base : ℕ) (last : Option FrameHead) (h : List Push) (m : ℕ) → 0 < n → m ≤ length h → Kept n base last h m → LockTold n base last h m

abbrev pub HeadClaim : Type 0
HeadClaim = (n base : ℕ) (last : Option FrameHead) (h : List Push) (m : ℕ) → 0 < n → m < length h → Kept n base last h m → HeadsAfterLock n base last h m

-- for a lock in period k at p, and as long as nothing before that reading has lost
abbrev pub ReadingClaim : Type 0
ReadingClaim = (n base : ℕ) (last : Option FrameHead) (h : List Push) (k p j : ℕ) → 0 < n → p < n → LockIn n (size_at h) p k →
    reading n base last h k p (suc j) + 23 < length h → Kept n base last h (reading n base last h k p (suc j) + 23) → ReadingsTell n base last h k p j

-- the loss by markers, as a test of a position, is the loss by markers
pub record MarkersAre (n base : ℕ) (last : Option FrameHead) (h : List Push) (c : ℕ) : Type 0 where
  pub loses : LostByMarkers n h c → markers_lose_at n base last h c ≡ true
  pub loses_only : markers_lose_at n base last h c ≡ true → LostByMarkers n h c

abbrev pub MarkersClaim : Type 0
MarkersClaim = (n base : ℕ) (last : Option FrameHead) (h : List Push) (c : ℕ) → 0 < n → MarkersAre n base last h c

-- under the premise at 9,296: locked after symbol 37,207 and not before, at that place; no loss by periods while it lasts
pub record Relocks (base place : ℕ) (last : Option FrameHead) (h : List Push) : Type 0 where
  pub not_before : (m : ℕ) → m < 37207 → m ≤ length h → is_locked (after 9296 base last h m).sync.run.lock ≡ false
  pub falls : 37207 ≤ length h → (is_locked (after 9296 base last h 37207).sync.run.lock ≡ true) × (offset_of (after 9296 base last h 37207).sync.run.lock ≡ place)
  pub lasts : (m : ℕ) → m ≤ length h → ¬ LossBy 9296 (size_at h) m

abbrev pub RelockClaim : Type 0
RelockClaim = (base place P Q : ℕ) (last : Option FrameHead) (h : List Push) → Premise 9296 place P Q (size_at h) (length h - 23) → Relocks base place last h

-- a stretch of fewer than 37,207 symbols has no lock, whatever it holds
abbrev pub NoLockClaim : Type 0
NoLockClaim = (base : ℕ) (last : Option FrameHead) (h : List Push) (m : ℕ) → m < 37207 → m ≤ length h → is_locked (after 9296 base last h m).sync.run.lock ≡ false

-- the first 37,207 symbols lose nothing, whatever they are
abbrev pub KeptClaim : Type 0
KeptClaim = (base : ℕ) (last : Option FrameHead) (h : List Push) (m : ℕ) → m ≤ 37207 → Kept 9296 base last h m

-- the events of a symbol that is taken; a refused one tells none
abbrev pub events_told : Result Pushed (Refused SlotSync) → Events
events_told (Ok pushed) = pushed.events
events_told (Err refused) = no_events

-- ---- the entries: what an accepted `push` answers and leaves is a push of the story, and a restart is a new sync with the record kept
pub record EntryIs (s : SlotSync) (p : Push) (acc : List ℕ) : Type 0 where
  pub sync : sync_left (push_answer s p.i p.q p.f p.w acc) ≡ (push_on 9296 (record { sync = s; acc = acc }) p).sync
  pub events : events_told (push_answer s p.i p.q p.f p.w acc) ≡ (step_on 9296 (record { sync = s; acc = acc }) p).events
  pub stored : push_acc s p.i p.q p.f p.w acc ≡ (push_on 9296 (record { sync = s; acc = acc }) p).acc

abbrev pub EntryClaim : Type 0
EntryClaim = (s : SlotSync) (p : Push) (acc : List ℕ) → IsOk (push_answer s p.i p.q p.f p.w acc) → EntryIs s p acc

pub record RestartIs (s : SlotSync) (at : ℕ) (acc : List ℕ) : Type 0 where
  pub sync : restart_answer s at acc ≡ Ok (started_sync at s.run.course.last)
  pub stored : restart_acc s at acc ≡ replicate (length acc) 0

abbrev pub RestartClaim : Type 0
RestartClaim = (s : SlotSync) (at : ℕ) (acc : List ℕ) → IsOk (restart_answer s at acc) → RestartIs s at acc
