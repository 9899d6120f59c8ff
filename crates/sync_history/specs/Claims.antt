-- What is claimed of the lock, on the sizes alone, and of the heads, on the readings alone; proofs/Theorems.antt proves it. n is the period.
use Rattle.sync_heads.specs.declared.FrameHead.{FrameHead}
use Rattle.std.specs.Prelude.{true, false, ◌≡◌, pos, ℕ, zero, suc, ◌+◌, ◌*◌, ◌/◌, ◌≤◌, ◌<◌, Option, None, Some}
use Rattle.laws.specs.Choice.{when◌then◌else◌}
use Rattle.sync_corr.specs.declared.Both.{Both}
use Rattle.sync_heads.specs.declared.Stage.{Stage}
use Rattle.sync_heads.specs.declared.Stage.TheVariants.{Before}
use Rattle.sync_heads.specs.declared.Course.{Course}
use Rattle.sync_heads.specs.declared.Taken.{Taken}
use Rattle.sync_heads.specs.Heads.{read_of}
use Rattle.sync_lock.specs.declared.Lock.{Lock}
use Rattle.sync_lock.specs.declared.Lock.TheVariants.{Search, Locked}
use Rattle.sync_lock.specs.declared.Verdict.TheVariants.{Loses}
use Rattle.sync_lock.specs.Rule.{rule_of, lock_after}
use Rattle.sync_history.specs.History.{acc_after, figures_to, figures, LockIn, LockOn, LockBy, Eighth, LossBy, lock_in, eighth_at}
use Rattle.sync_history.specs.Heads.{MarkerLoss, capped, markers_lose, strays_to, misses_to, position_at, record_to, first_told, second_told}

-- ---- the figures mean what they say
pub record FirstGreatest (f : ℕ → ℕ) (m : ℕ) : Type 0 where
  pub greatest : (i : ℕ) → i < m → f i ≤ (figures_to f m).peak
  pub there : 0 < (figures_to f m).peak → ((figures_to f m).place < m) × (f (figures_to f m).place ≡ (figures_to f m).peak)
  pub first : (i : ℕ) → i < (figures_to f m).place → f i < (figures_to f m).peak
  pub silent : (figures_to f m).peak ≡ 0 → (figures_to f m).place ≡ 0

-- ---- a stretch of fewer than 4 n + 23 symbols has no lock, whatever it holds
pub record NoneBefore (n : ℕ) (s : ℕ → ℕ) : Type 0 where
  pub none : (p m : ℕ) → m < 4 * n + 23 → ¬ LockBy n s p m

-- ---- under the premise: lock falls exactly on symbol 4 n + 23, at that place, and no loss by periods while it lasts
pub record Locks (n place : ℕ) (s : ℕ → ℕ) (symbols : ℕ) : Type 0 where
  pub falls : 4 * n + 23 ≤ symbols → LockOn n s place (4 * n + 23)
  pub lasts : (m : ℕ) → m ≤ symbols → ¬ LossBy n s m

-- a lock falls at one place and on one symbol only
pub record OneLock (n : ℕ) (s : ℕ → ℕ) : Type 0 where
  pub one : (p q k j : ℕ) → LockIn n s p k → LockIn n s q j → (p ≡ q) × (k ≡ j)

-- ---- lock and loss by periods, as functions, are lock and loss
pub record LockFound (n : ℕ) (s : ℕ → ℕ) (k : ℕ) : Type 0 where
  pub found : (p l : ℕ) → LockIn n s p l → l < k → (lock_in n s k ≡ Some l) × ((figures n s l).place ≡ p)
  pub found_only : (l : ℕ) → lock_in n s k ≡ Some l → (l < k) × LockIn n s (figures n s l).place l
  pub eighth : (p : ℕ) → Eighth n s p k → (l : ℕ) × (lock_in n s k ≡ Some l) × (eighth_at n s l k ≡ true)
  pub eighth_only : (l : ℕ) → lock_in n s k ≡ Some l → eighth_at n s l k ≡ true → Eighth n s (figures n s l).place k

-- ---- the lock rule over the periods: what it records after k periods is what happened
-- the lock after k periods of which none lost
unfoldable pub lock_to : ℕ → (ℕ → ℕ) → ℕ → Lock
lock_to n s zero = Search 0 0
lock_to n s (suc k) = lock_after (rule_of n (lock_to n s k) (figures n s k))

-- it loses with period k
abbrev pub LosesIn : ℕ → (ℕ → ℕ) → ℕ → Type 0
LosesIn n s k = rule_of n (lock_to n s k) (figures n s k) ≡ Loses

-- locked at p after k periods: the lock has fallen there with one of them
pub record LockedBy (n : ℕ) (s : ℕ → ℕ) (p k : ℕ) : Type 0 where
  pub period : ℕ
  pub before : period < k
  pub falls : LockIn n s p period

-- for as long as no period has lost
pub record RuleTells (n : ℕ) (s : ℕ → ℕ) (k : ℕ) : Type 0 where
  pub locked : (p : ℕ) → LockedBy n s p k → (misses : ℕ) × (lock_to n s k ≡ Locked p misses)
  pub locked_only : (p misses : ℕ) → lock_to n s k ≡ Locked p misses → LockedBy n s p k
  pub loses : (p : ℕ) → Eighth n s p k → LosesIn n s k
  pub loses_only : LosesIn n s k → (p : ℕ) × Eighth n s p k

-- ---- accumulators: how far sizes of at most m bring one, and what k periods leave of its start value
-- at most seven eighths of it each period, rounded up
unfoldable pub left_of : ℕ → ℕ → ℕ
left_of a zero = a
left_of a (suc k) = (7 * left_of a k + 7) / 8

pub record AccBounds (n : ℕ) (s : ℕ → ℕ) (m : ℕ) : Type 0 where
  pub least : (a i k : ℕ) → acc_after n s 0 i k ≤ acc_after n s a i k
  pub most : (a i k : ℕ) → acc_after n s a i k ≤ acc_after n s 0 i k + left_of a k
  pub from_zero : ((j : ℕ) → s j ≤ m) → (i k : ℕ) → acc_after n s 0 i k ≤ m
  pub quiet : ((j : ℕ) → s j ≤ 7) → (i k : ℕ) → acc_after n s 0 i k ≡ 0

-- ---- heads: the step's own rule (crate sync_heads), reading after reading, with what it leaves, tells what the rules of Heads say
-- the loss by markers as a test is the loss by markers
pub record MarkersTell (b : ℕ → Both) (i : ℕ) : Type 0 where
  pub loses : MarkerLoss b i → markers_lose b i ≡ true
  pub loses_only : markers_lose b i ≡ true → MarkerLoss b i

module _ (n start : ℕ) (kept : Option FrameHead) (b : ℕ → Both) where
  -- what the step makes of reading i, and what it leaves after the first i
  unfoldable pub heard_to : ℕ → Stage × Course
  heard_to zero = (Before, record { majority = pos 0; slot = None; last = kept; misses = 0; stray = 0; missed = 0 })
  heard_to (suc i) =
      let k = read_of n (heard_to i).0 (heard_to i).1 (record { at = position_at n start kept b i; both = b i }) in
      (k.stage, k.course)

  abbrev pub read_at : ℕ → Taken
  read_at i = read_of n (heard_to i).0 (heard_to i).1 (record { at = position_at n start kept b i; both = b i })

  -- for as long as no reading before has lost
  pub record HeadsTell (i : ℕ) : Type 0 where
    pub lost : (read_at i).lost ≡ markers_lose b i
    pub first : (read_at i).first ≡ first_told n start kept b i
    pub second : (read_at i).second ≡ second_told n start kept b i
    -- the losing head makes no frame record
    pub last : (read_at i).course.last ≡ (when markers_lose b i then record_to n start kept b i else record_to n start kept b (suc i))
    pub stray : markers_lose b i ≡ false → (read_at i).course.stray ≡ capped (strays_to b (suc i))
    pub missed : markers_lose b i ≡ false → (read_at i).course.missed ≡ capped (misses_to b (suc i))

abbrev pub HeadsClaim : Type 0
HeadsClaim = (n start : ℕ) (kept : Option FrameHead) (b : ℕ → Both) (i : ℕ) → 0 < n → ((j : ℕ) → j < i → markers_lose b j ≡ false) → HeadsTell n start kept b i
