-- DEMAND 3. For every list of a receiver's calls from a new one on, and for every loss in it. docs/GUARANTEE.md has it sentence by sentence beside
-- the order and document 01.
use Rattle.std.specs.Prelude.{ℕ, suc, ◌+◌, ◌-◌, ◌*◌, ◌/◌, ◌%◌, ◌≤◌, ◌<◌, true, false, List, [], ◌∷◌, ◌++◌, ◌⊎◌, ◌≡◌, eqb, ltb, ℤ, pos, length, get_or, replicate, Ok, None, Some, is_some}
use Rattle.laws.specs.Choice.{when◌then◌else◌}
use Rattle.laws.specs.Ranges.{firsts}
use Rattle.sync_lock.specs.declared.Lock.{Lock}
use Rattle.sync_step.specs.declared.Event.{Event}
use Rattle.sync_step.specs.declared.Event.TheVariants.{Nothing, Head, Period, Lost}
use Rattle.sync_step.specs.declared.Events.{Events}
use Rattle.sync_step.specs.declared.SyncStats.{SyncStats}
use Rattle.sync_step.specs.Step.{is_locked, offset_of, locked_offset}
use Rattle.sync_history.specs.History.{acc_after, Eighth, LockOn, LockBy, LossBy, Premise, end_of}
use Rattle.sync_tie.specs.Pushes.{Push, size_at}
use Rattle.sync_tie.specs.Claims.{any_head, HeadAt}
use Rattle.sync_tie.specs.Stretch.{LostByMarkers}
use Rattle.sums.specs.declared.Sums.{Sums}
use Rattle.demap.specs.Answers.{demap_refusal, demap_buffer}
use Rattle.receiver.specs.declared.Kept.{Kept}
use Rattle.receiver.specs.Started.{started, new_kept}
use Rattle.frame.specs.declared.AlignedSymbol.{AlignedSymbol}
use Rattle.receiver_slot.specs.declared.AlignedRun.{AlignedRun}
use Rattle.receiver_slot.specs.Slot.{soft_all, written_on}
use Rattle.receiver.specs.Symbol.{Input, Lent, aligned}
use Rattle.receiver.specs.Answers.{no_runs, new_answer, new_acc}
use Rattle.receiver_laws.specs.Softs.{BitTrue, SoftTrue}
use Rattle.guarantee.specs.Calls.{Accumulators, SlotStore, Call, System, Told, CallsFit, begins, lent_to, after_call, after_calls, told_by, told_all}
use Rattle.guarantee.specs.Calls.{symbol, points, taps, opens, ends, restarts, own, wrong}
use Rattle.guarantee.specs.History.{History, begins_with, next_in, with_symbol, kept_in, kept_over, refusal_in, events_in, loses_by, ends_stretch, happen_all, happens, told_to, runs_in, ended_in, is_open, frame_of, count_of}

-- ---- words
-- a loss is told with this restart position
abbrev pub LostAt : ℕ → Event → Type 0
LostAt at Nothing = ⊥
LostAt at (Head g) = ⊥
LostAt at (Period p) = ⊥
LostAt at (Lost to) = to ≡ at

pub data Among (P : Event → Type 0) (es : Events) : Type 0 where
  in-first : P es.first → Among P es
  in-second : P es.second → Among P es
  in-third : P es.third → Among P es

-- the event is a period's end with these figures
abbrev pub IsPeriod : SyncStats → Event → Type 0
IsPeriod p Nothing = ⊥
IsPeriod p (Head g) = ⊥
IsPeriod p (Period q) = q ≡ p
IsPeriod p (Lost to) = ⊥

-- the soft buffer that a call was lent
abbrev pub soft_of : Call → List ℤ
soft_of (symbol x a b soft) = soft
soft_of (points bits ps k) = []
soft_of (taps ts frame) = []
soft_of (opens frame) = []
soft_of ends = []
soft_of (restarts at a) = []

-- no soft bit: none counted, the buffer unchanged
pub record NoSoft (c : Call) (t : Told) : Type 0 where
  pub runs : t.runs ≡ no_runs
  pub soft : t.soft ≡ soft_of c

-- where aligned symbols stand: each its position and slot index; those of a run one after another
pub record Place : Type 0 where
  pub at : ℕ
  pub j : ℕ

unfoldable pub places_in : List AlignedSymbol → List Place
places_in [] = []
places_in (a ∷ rest) = record { at = a.meta.at; j = a.meta.j } ∷ places_in rest

unfoldable pub places_of : AlignedRun → List Place
places_of r = firsts (λ (i : ℕ). record { at = r.at + i; j = r.j + i }) r.count

-- the accumulators of a stretch, each from 0: that of place i has taken in, period by period, the sizes of those positions at i whose windows are complete
unfoldable pub taken_in : ℕ → ℕ → ℕ
taken_in i positions = when ltb i (positions % 9296) then positions / 9296 + 1 else positions / 9296

pub record Accumulated (ps : List Push) (acc : List ℕ) : Type 0 where
  pub long : length acc ≡ 9296
  pub each : (i : ℕ) → i < 9296 → get_or acc i 0 ≡ acc_after 9296 (size_at ps) 0 i (taken_in i (length ps - 23))

-- the accumulators that a call was lent, afterwards: the receiver's own, or those that gave 1 as they were
abbrev pub lent_back : Call → List ℕ → List ℕ
lent_back (symbol x own b soft) acc = acc
lent_back (symbol x (wrong given e) b soft) acc = given
lent_back (points bits ps k) acc = []
lent_back (taps ts frame) acc = []
lent_back (opens frame) acc = []
lent_back ends acc = []
lent_back (restarts at own) acc = acc
lent_back (restarts at (wrong given e)) acc = given

-- ---- the stretch that a call belongs to: its accepted symbols, this one too
unfoldable pub stretch_with : History → Call → List Push
stretch_with h (symbol x a b soft) = when eqb (refusal_in h (symbol x a b soft)) 0 then with_symbol h x else h.pushes
stretch_with h (points bits ps k) = h.pushes
stretch_with h (taps ts frame) = h.pushes
stretch_with h (opens frame) = h.pushes
stretch_with h ends = h.pushes
stretch_with h (restarts at a) = h.pushes

-- the kept values "as the losing call leaves them"
unfoldable pub kept_after : History → Call → Kept
kept_after h (symbol x a b soft) = kept_over h x
kept_after h (points bits ps k) = kept_in h
kept_after h (taps ts frame) = kept_in h
kept_after h (opens frame) = kept_in h
kept_after h ends = kept_in h
kept_after h (restarts at a) = kept_in h

-- ---- what is claimed of a call c: h is the history before it, s the receiver with its stores, t what the call tells, rest the calls after it
module _ (h : History) (s : System) (c : Call) (t : Told) (rest : List Call) where
  -- the stretch, and how many symbols it had before
  abbrev ps : List Push
  ps = stretch_with h c

  abbrev m : ℕ
  m = length h.pushes

  -- "the receiver's answers are those that the definitions give": each refusal number, the events in order, the runs; whether sums were ended, of which frame and
  -- how many symbols they counted; the accumulators. The soft buffer: `SoftBits`, and `NoSoft` where none comes
  pub record Answers : Type 0 where
    pub refusal : t.refusal ≡ refusal_in h c
    pub events : t.events ≡ events_in h c
    pub runs : t.runs ≡ runs_in h c
    pub ended : is_some t.sums ≡ is_open (ended_in h c)
    pub frame : (u : Sums) → t.sums ≡ Some u → u.frame ≡ frame_of (ended_in h c)
    pub count : (u : Sums) → t.sums ≡ Some u → u.count ≡ count_of (ended_in h c)
    pub no_sums : is_open (ended_in h c) ≡ false → t.sums ≡ None
    -- the receiver's own are those of the stretch that runs after the call
    pub acc : Accumulated (happens h c).pushes t.acc
    pub lent : t.lent ≡ lent_back c t.acc

  -- losses are told exactly where the history has them, with their restart positions
  pub record Losses : Type 0 where
    pub told : loses_by h c ≡ true → Among (LostAt (next_in h + 1)) t.events
    pub only : (at : ℕ) → Among (LostAt at) t.events → (loses_by h c ≡ true) × (at ≡ next_in h + 1)
    -- a loss is by "two missed markers in a row": the symbol completes the reading of the second; or by "eight others in a row": it ends the eighth
    -- period. And each of the two loses
    pub kinds : loses_by h c ≡ true → LostByMarkers 9296 ps (m - 23) ⊎ ((p : ℕ) × (k : ℕ) × Eighth 9296 (size_at ps) p k × (length ps ≡ end_of 9296 k))
    pub markers : length ps ≡ suc m → LostByMarkers 9296 ps (m - 23) → loses_by h c ≡ true
    pub eighth : length ps ≡ suc m → (p k : ℕ) → Eighth 9296 (size_at ps) p k → length ps ≡ end_of 9296 k → loses_by h c ≡ true
    -- "from the next call on, its answers equal those of a new receiver started at that loss's restart position with the kept values of 01 and given
    -- the same calls", whatever that one's slot store holds
    pub like_new : loses_by h c ≡ true → (store : List ℤ) → length store ≡ 18592 →
        told_all (after_call s c) rest ≡ told_all (begins (next_in h + 1) (kept_after h c) store) rest

  -- "no head or soft bit comes before lock": only after a lock on an earlier symbol
  pub record BeforeLock : Type 0 where
    pub heads : any_head t.events ≡ true → (p : ℕ) × LockBy 9296 (size_at ps) p m
    pub soft : ((p : ℕ) → ¬ LockBy 9296 (size_at ps) p m) → NoSoft c t
    -- nor does a loss
    pub losses : loses_by h c ≡ true → (p : ℕ) × LockBy 9296 (size_at ps) p m
    -- "A stretch of fewer than 37,207 has no lock"
    pub few : length ps < 37207 → (p : ℕ) → ¬ LockBy 9296 (size_at ps) p (length ps)

  -- the receiver's lock after the call
  abbrev lock_after : Lock
  lock_after = (after_call s c).receiver.front.sync.run.lock

  -- "the receiver is locked after it and not before": as its own lock has it, and as a period's end tells; of a call that does not end the stretch
  pub record LockTold : Type 0 where
    pub locked : ends_stretch h c ≡ false → (p : ℕ) → LockBy 9296 (size_at ps) p (length ps) → (is_locked lock_after ≡ true) × (offset_of lock_after ≡ p)
    pub locked_only : ends_stretch h c ≡ false → is_locked lock_after ≡ true → LockBy 9296 (size_at ps) (offset_of lock_after) (length ps)
    pub period : ends_stretch h c ≡ false → (q : SyncStats) → Among (IsPeriod q) t.events → q.offset ≡ locked_offset lock_after

  -- "Whenever, in every period of 9,296 after the loss, the rotated symbols have correlation size at least P at one fixed position and at most Q at all
  -- others, P ≥ 4Q + 8"
  pub record Relocks (place : ℕ) : Type 0 where
    -- "lock is found exactly on the 37,207th accepted symbol after the loss"; `few` above: "and no earlier"
    pub falls : 37207 ≤ length ps → LockOn 9296 (size_at ps) place 37207
    -- after the call of that symbol the receiver is locked at that position, after the 37,206th and all before it is not
    pub locked : m ≡ 37206 → length ps ≡ 37207 → (is_locked lock_after ≡ true) × (offset_of lock_after ≡ place)
    pub not_before : length ps < 37207 → is_locked lock_after ≡ false
    -- the lock is not lost by periods
    pub lasts : (k : ℕ) → k ≤ length ps → ¬ LossBy 9296 (size_at ps) k
    -- "from the second later reading of that position on, every reading gives a head until the next loss or restart", of that very window. Readings
    -- of the place stand in period 4, 5, ..: the second in period 5
    pub heads : loses_by h c ≡ false → length ps ≡ suc m → (j : ℕ) → m ≡ (5 + j) * 9296 + place + 23 →
        Among (HeadAt (h.base + ((5 + j) * 9296 + place))) t.events

  -- the soft bits of an accepted symbol stand in order from the buffer's start, are of its aligned symbols with the points of the history, and true. The aligned
  -- symbols are those that the runs tell of, the tail's before the body's
  pub record SoftBits (x : Input) (l : Lent) : Type 0 where
    pub placed : places_in (aligned 9296 s.receiver x l) ≡ places_of t.runs.tail ++ places_of t.runs.body
    pub stand : t.soft ≡ written_on (soft_all h.points (aligned 9296 s.receiver x l)) l.soft
    pub fit : length (soft_all h.points (aligned 9296 s.receiver x l)) ≤ 44880
    pub are-true : (i : ℕ) → i < length (soft_all h.points (aligned 9296 s.receiver x l)) → SoftTrue h.points (aligned 9296 s.receiver x l) i

  -- a head after another one of its stretch completes a slot (`runs_in`); nothing comes out otherwise
  pub record SlotTold : Type 0 where
    pub no_head : any_head t.events ≡ false → NoSoft c t
    pub first_head : told_to h.base h.last h.pushes (length h.pushes) ≡ 0 → NoSoft c t

  pub record CallClaims : Type 0 where
    pub answers : Answers
    pub losses : Losses
    pub before-lock : BeforeLock
    pub lock : LockTold
    pub slots : SlotTold
    pub relocks : (place P Q : ℕ) → Premise 9296 place P Q (size_at ps) (length ps - 23) → Relocks place
    -- a stretch that meets the premise has met it at each of its calls before
    pub earlier : (place P Q : ℕ) (qs es : List Push) → ps ≡ qs ++ es → Premise 9296 place P Q (size_at ps) (length ps - 23) →
        Premise 9296 place P Q (size_at qs) (length qs - 23)
    -- a refused symbol writes none
    pub soft_bits : (x : Input) (a : Accumulators) (b : SlotStore) (soft : List ℤ) → c ≡ symbol x a b soft → refusal_in h c ≡ 0 → SoftBits x (lent_to s a b soft)
    pub refused : (refusal_in h c ≡ 0 → ⊥) → NoSoft c t

-- ---- THE CLAIM
pub record Demand3 (at : ℕ) (step : ℤ) (store : List ℤ) (cs : List Call) : Type 0 where
  -- an accepted new receiver is one that begins there
  pub new : (acc : List ℕ) → length acc ≡ 9296 →
      (new_answer at step acc ≡ Ok (started at (new_kept step))) × (new_acc acc ≡ replicate 9296 0)
  -- every call of the list
  pub each : (before : List Call) (c : Call) (rest : List Call) → cs ≡ before ++ (c ∷ rest) →
      let h = happen_all (begins_with at (new_kept step)) before in
      let s = after_calls (begins at (new_kept step) store) before in
      CallClaims h s c (told_by s c) rest

abbrev pub DemandClaim : Type 0
DemandClaim = (at : ℕ) (step : ℤ) (store : List ℤ) (cs : List Call) → length store ≡ 18592 → CallsFit cs → Demand3 at step store cs

-- "soft bits of a single demap are meant too"
abbrev pub SingleClaim : Type 0
SingleClaim = (yi yq : ℤ) (points : List ℤ) (bits : ℕ) (k : ℤ) (out : List ℤ) → demap_refusal bits (length points) k (length out) ≡ Ok tt →
    (j : ℕ) → j < bits → BitTrue bits points yi yq j (get_or (demap_buffer yi yq points bits k out) j (pos 0))
