-- The lock and its loss, on the sizes of the positions alone: s i is the size of position i, n the period (9,296). No state is recorded here.
use Rattle.std.specs.Prelude.{◌≢◌, ◌≡◌, Bool, true, not, ◌&&◌, eqb, leb, ℕ, zero, suc, ◌+◌, ◌-◌, ◌*◌, ◌%◌, ◌≤◌, ◌<◌, Option, None, Some}
use Rattle.laws.specs.Choice.{when◌then◌else◌}
use Rattle.sync_lock.specs.Period.{leak_of, no_tally, added_of, counts_of}
use Rattle.sync_lock.specs.declared.Tally.{Tally}

-- ---- accumulators and periods
-- "Accumulator: floor((7a + size)/8)": that of place i, from the value a, after k periods
unfoldable pub acc_after : ℕ → (ℕ → ℕ) → ℕ → ℕ → ℕ → ℕ
acc_after n s a i zero = a
acc_after n s a i (suc k) = leak_of (acc_after n s a i k) (s (k * n + i))

-- the figures of f 0 .. f (m - 1): the first greatest, its place, the sum
unfoldable pub figures_to : (ℕ → ℕ) → ℕ → Tally
figures_to f zero = no_tally
figures_to f (suc i) = added_of (figures_to f i) i (f i)

-- the figures of period k, counted from 0: of the accumulators as it leaves them; they started at 0
unfoldable pub figures : ℕ → (ℕ → ℕ) → ℕ → Tally
figures n s k = figures_to (λ i. acc_after n s 0 i (suc k)) n

-- period k counts, and its peak stands at p
pub record CountsAt (n : ℕ) (s : ℕ → ℕ) (p k : ℕ) : Type 0 where
  pub counts : counts_of n (figures n s k) ≡ true
  pub place : (figures n s k).place ≡ p

-- the symbol, counted from 1, that ends period k: it completes the window of the period's last position
unfoldable pub end_of : ℕ → ℕ → ℕ
end_of n k = suc k * n + 23

-- ---- the lock: "the first symbol that ends a fourth counting period in a row with one peak position"
-- period k is a fourth counting period in a row with its peak at p
pub record Fourth (n : ℕ) (s : ℕ → ℕ) (p k : ℕ) : Type 0 where
  pub enough : 3 ≤ k
  pub four : (j : ℕ) → j ≤ k → k < j + 4 → CountsAt n s p j

-- the lock falls with period k, at p
pub record LockIn (n : ℕ) (s : ℕ → ℕ) (p k : ℕ) : Type 0 where
  pub fourth : Fourth n s p k
  pub first : (j q : ℕ) → j < k → ¬ Fourth n s q j

-- .. on symbol m
pub record LockOn (n : ℕ) (s : ℕ → ℕ) (p m : ℕ) : Type 0 where
  pub period : ℕ
  pub ends : m ≡ end_of n period
  pub falls : LockIn n s p period

-- .. on one of the first m symbols
pub record LockBy (n : ℕ) (s : ℕ → ℕ) (p m : ℕ) : Type 0 where
  pub on : ℕ
  pub by : on ≤ m
  pub falls : LockOn n s p on

-- ---- its loss by periods: "eight others in a row, while locked, lose"
-- period k is an eighth other period in a row after the lock at p
pub record Eighth (n : ℕ) (s : ℕ → ℕ) (p k : ℕ) : Type 0 where
  pub locked : ℕ
  pub falls : LockIn n s p locked
  pub after : locked + 8 ≤ k
  pub others : (j : ℕ) → j ≤ k → k < j + 8 → ¬ CountsAt n s p j

-- one of the first m symbols loses by periods
pub record LossBy (n : ℕ) (s : ℕ → ℕ) (m : ℕ) : Type 0 where
  pub at : ℕ
  pub period : ℕ
  pub by : end_of n period ≤ m
  pub eighth : Eighth n s at period

-- ---- lock and loss, as functions of the periods
-- the first of 0 .. i - 1 that passes a test
unfoldable pub earlier : Option ℕ → Option ℕ → Option ℕ
earlier (Some f) x = Some f
earlier None x = x

unfoldable pub first_to : (ℕ → Bool) → ℕ → Option ℕ
first_to t zero = None
first_to t (suc i) = earlier (first_to t i) (when t i then Some i else None)

-- period k counts, with its peak at p
unfoldable pub counts_at : ℕ → (ℕ → ℕ) → ℕ → ℕ → Bool
counts_at n s p k = counts_of n (figures n s k) && eqb (figures n s k).place p

-- period k is a fourth counting period in a row with one peak position
unfoldable pub fourth_at : ℕ → (ℕ → ℕ) → ℕ → Bool
fourth_at n s k = let p = (figures n s k).place in leb 3 k && counts_at n s p k && counts_at n s p (k - 1) && counts_at n s p (k - 2) && counts_at n s p (k - 3)

-- the period with which the lock has fallen, if it has with one of the first k; it fell at that period's peak
abbrev pub lock_in : ℕ → (ℕ → ℕ) → ℕ → Option ℕ
lock_in n s k = first_to (fourth_at n s) k

-- none of the m periods up to k counts at p
unfoldable pub others_to : ℕ → (ℕ → ℕ) → ℕ → ℕ → ℕ → Bool
others_to n s p k zero = true
others_to n s p k (suc m) = not (counts_at n s p (k - m)) && others_to n s p k m

-- period k is an eighth other period in a row after the lock with period l
unfoldable pub eighth_at : ℕ → (ℕ → ℕ) → ℕ → ℕ → Bool
eighth_at n s l k = leb (l + 8) k && others_to n s (figures n s l).place k 8

-- ---- the premise of demand 3, on the first m positions: "correlation size at least P at one fixed position and at most Q at all
-- others, P ≥ 4Q + 8"; windows that are not complete are not among them
pub record Premise (n place P Q : ℕ) (s : ℕ → ℕ) (m : ℕ) : Type 0 where
  pub within : place < n
  pub apart : 4 * Q + 8 ≤ P
  pub there : (j : ℕ) → j < m → j % n ≡ place → P ≤ s j
  pub elsewhere : (j : ℕ) → j < m → j % n ≢ place → s j ≤ Q
