-- All that specs/Claims.antt states, proved; and the lock at the period 9,296. Assumes nothing.
use Prim.Native.Nat.{◌%◌, ◌*◌, ◌+◌, ◌-◌, ◌<◌, ◌≤◌, ℕ}
use Rattle.laws.specs.Choice.{if_no, if_yes, when◌then◌else◌}
use Rattle.sync_history.proofs.Locks.{one_symbol}
use Rattle.sync_history.specs.Claims.{Locks}
use Rattle.sync_history.specs.History.{LockBy, LockOn, LossBy, Premise, acc_after, figures, figures_to}
use Rattle.sync_lock.specs.Period.{added_of, counts_of, leak_of, no_tally}
use borrow.Author.Tests.{eq-eqb, ne_eqb}
use lib.Dec.{eqb, lit≤}
use mathlib.Core.Bool.{false}
use mathlib.Core.Path.{◌≡◌, refl}
use native.Mathlib.Nat.{le_refl}
use native.Mathlib.Omega.{arith}
-- for every row of values the figures are the first greatest, its place and the sum
pub use Rattle.sync_history.proofs.Figures.{first_greatest, sum_none, sum_more}
-- for every n and all sizes: no lock before symbol 4 n + 23, and one lock only; for n of 9 or more the premise locks
pub use Rattle.sync_history.proofs.Locks.{none_before, one_lock, locks}
-- for every n and all sizes, as long as no period loses
pub use Rattle.sync_history.proofs.Rule.{rule_tells}
-- for every n and all sizes: lock and loss by periods as functions
pub use Rattle.sync_history.proofs.Found.{lock-found}
-- for every n and all readings, as long as none has lost; and for all readings
pub use Rattle.sync_history.proofs.Read.{heads_tell, markers-tell}
-- for every n and all sizes
pub use Rattle.sync_history.proofs.Accumulators.{acc_bounds}
-- by computing, at a period of 3
pub use Rattle.sync_history.proofs.Runs.{runs, lock_happens, loss_happens, relock_happens}
-- by computing, at heads 5, 125 and 245
pub use Rattle.sync_history.proofs.Marks.{marker_runs, rule_runs, marker_loss_happens}

-- ---- at the period 9,296 the fourth period ends with symbol 37,207: 4 * 9296 + 23 is 37207
-- "a stretch of fewer than 37,207 symbols has no lock"
pub no_lock_before : (s : ℕ → ℕ) (p m : ℕ) → m < 37207 → ¬ LockBy 9296 s p m
no_lock_before s p m h = (none_before 9296 s).none p m h

-- what the premise at 9,296 gives
pub record LocksThere (place : ℕ) (s : ℕ → ℕ) (symbols : ℕ) : Type 0 where
  pub falls : 37207 ≤ symbols → LockOn 9296 s place 37207
  pub only : 37207 ≤ symbols → (q m : ℕ) → LockOn 9296 s q m → (q ≡ place) × (m ≡ 37207)
  pub lasts : (m : ℕ) → m ≤ symbols → ¬ LossBy 9296 s m

-- "lock falls exactly on the 37,207th symbol"
pub lock_theorem : (place P Q : ℕ) (s : ℕ → ℕ) (symbols : ℕ) → Premise 9296 place P Q s (symbols - 23) → LocksThere place s symbols
lock_theorem place P Q s symbols pr = record {
  falls = l.falls;
  only = λ h q m o. one_symbol 9296 s q place m 37207 o (l.falls h);
  lasts = l.lasts;
}
  where
    l : Locks 9296 place s symbols
    l = locks 9296 place P Q s symbols (lit≤ tt) pr

-- ---- the premise can be met
-- P at one place of each period, Q elsewhere
unfoldable pub levels : ℕ → ℕ → ℕ → ℕ → ℕ → ℕ
levels n place P Q j = when eqb (j % n) place then P else Q

-- meets it, on any number of positions
pub levels_meet : (n place P Q m : ℕ) → place < n → 4 * Q + 8 ≤ P → Premise n place P Q (levels n place P Q) m
unfolding levels
levels_meet n place P Q m h g = record {
  within = h;
  apart = g;
  there = λ j l e. rw (if_yes (eqb (j % n) place) P Q (eq-eqb (j % n) place e)) (le_refl P);
  elsewhere = λ j l e. rw (if_no (eqb (j % n) place) P Q (ne_eqb (j % n) place e)) (le_refl Q);
}

-- P = 8, Q = 0 locks
pub eight_locks : (place : ℕ) → place < 9296 → LockOn 9296 (levels 9296 place 8 0) place 37207
eight_locks place h = (lock_theorem place 8 0 (levels 9296 place 8 0) 37207 (levels_meet 9296 place 8 0 (37207 - 23) h (lit≤ tt))).falls (lit≤ tt)

-- .. and no period loses it
pub eight_lasts : (place m : ℕ) → place < 9296 → ¬ LossBy 9296 (levels 9296 place 8 0) m
eight_lasts place m h = (lock_theorem place 8 0 (levels 9296 place 8 0) m (levels_meet 9296 place 8 0 (m - 23) h (lit≤ tt))).lasts m (omega arith)

-- 9 is the least period at which the premise locks: at 8, with P = 200 and Q = 48, period 0 does not count
pub eight_too_short : counts_of 8 (figures 8 (levels 8 0 200 48) 0) ≡ false
unfolding levels figures figures_to acc_after leak_of no_tally added_of counts_of when◌then◌else◌
eight_too_short = refl
