-- The rule run by computing, at a period of 3: a lock, its loss by eight others, a lock again. So nothing claimed of these is empty. Assumes nothing.
use Prim.Native.Nat.{◌+◌, ◌<◌, suc, zero, ℕ}
use Rattle.laws.proofs.Tests.{and_both, by_test, never}
use Rattle.sync_history.proofs.Rule.{rule_tells}
use Rattle.sync_history.specs.Claims.{LockedBy, LosesIn, lock_to}
use Rattle.sync_history.specs.History.{LockOn, LossBy, acc_after, end_of, figures, figures_to}
use Rattle.sync_lock.specs.Period.{added_of, counts_of, leak_of, no_tally}
use Rattle.sync_lock.specs.Rule.{held_of, lock_after, rule_of, search_of, sought_of}
use Rattle.sync_lock.specs.declared.Lock.TheVariants.{Locked, Search}
use Rattle.sync_lock.specs.declared.Verdict.{Verdict}
use borrow.Author.Tests.{eqb-false, eqb-true}
use lib.Dec.{eqb}
use lib.ListN.{get_or}
use mathlib.Core.Bool.{Bool, ◌&&◌, false, true}
use mathlib.Core.List.{List, [], ◌++◌, ◌∷◌}
use mathlib.Core.Path.{◌≡◌, ap, refl, subst, sym}
use native.Mathlib.Omega.{arith}
use Rattle.laws.specs.Choice.{when◌then◌else◌}
use Rattle.sync_lock.specs.declared.Verdict.TheVariants.{Seeks, Locks, Holds, Loses}

-- ---- the sizes
-- xs so many times, then ys
unfoldable pub repeated : ℕ → List ℕ → List ℕ → List ℕ
repeated zero xs ys = ys
repeated (suc k) xs ys = xs ++ repeated k xs ys

-- four periods with 8 at place 1, eight of silence, 23 positions whose windows are not whole after the loss, four periods with 8 at place 2
unfoldable pub sizes : ℕ → ℕ
sizes i =
    let again = repeated 23 (8 ∷ []) (repeated 4 (0 ∷ 0 ∷ 8 ∷ []) []) in
    get_or (repeated 4 (0 ∷ 8 ∷ 0 ∷ []) (repeated 8 (0 ∷ 0 ∷ 0 ∷ []) again)) i 0

-- those of the stretch that begins after the loss with period 11
unfoldable pub later : ℕ → ℕ
later i = sizes (end_of 3 11 + i)

-- ---- by computing
pub record Runs : Type 0 where
  pub third_seeks : lock_to 3 sizes 3 ≡ Search 1 3
  pub fourth_locks : lock_to 3 sizes 4 ≡ Locked 1 0
  pub seventh_misses : lock_to 3 sizes 11 ≡ Locked 1 7
  pub eighth_loses : LosesIn 3 sizes 11
  pub relocks : lock_to 3 later 4 ≡ Locked 2 0

-- all five
pub runs : Runs
unfolding end_of repeated sizes later lock_to figures figures_to acc_after leak_of no_tally added_of counts_of sought_of search_of held_of rule_of lock_after when◌then◌else◌
runs = record { third_seeks = refl; fourth_locks = refl; seventh_misses = refl; eighth_loses = refl; relocks = refl }

-- ---- so it happened
-- the verdict is not a loss
unfoldable kept : Verdict → Bool
kept (Seeks p c) = true
kept (Locks p) = true
kept (Holds p m) = true
kept Loses = false

-- none of the first k periods loses
unfoldable keeps : ℕ → (ℕ → ℕ) → ℕ → Bool
keeps n s zero = true
keeps n s (suc k) = kept (rule_of n (lock_to n s k) (figures n s k)) && keeps n s k

-- the test means it
kept_true : (v : Verdict) → kept v ≡ true → ¬ (v ≡ Loses)
unfolding kept
kept_true v e d = never (sym (rw d at e))

-- .. of each of the first k
keeps-all : (n : ℕ) (s : ℕ → ℕ) (k : ℕ) → keeps n s k ≡ true → (j : ℕ) → j < k → ¬ LosesIn n s j
unfolding keeps
keeps-all n s zero e j h = absurd (omega arith)
keeps-all n s (suc k) e j h =
    let both = and_both (kept (rule_of n (lock_to n s k) (figures n s k))) (keeps n s k) e in
    by_test (eqb j k)
    (λ t. subst (λ (x : ℕ). ¬ LosesIn n s x) (sym (eqb-true j k t)) (kept_true (rule_of n (lock_to n s k) (figures n s k)) both.0))
    (λ t. let ne = eqb-false j k t in keeps-all n s k both.1 j (omega arith))

-- a lock after four periods fell with the fourth
on_fourth : (n : ℕ) (s : ℕ → ℕ) (p : ℕ) → LockedBy n s p 4 → LockOn n s p (end_of n 3)
on_fourth n s p b = record { period = b.period; ends = ap (end_of n) (omega (arith, b.before, b.falls.fourth.enough)); falls = b.falls }

-- by computing
runs_keep : (keeps 3 sizes 4 ≡ true) × (keeps 3 sizes 11 ≡ true) × (keeps 3 later 4 ≡ true)
unfolding kept keeps end_of repeated sizes later lock_to figures figures_to acc_after leak_of no_tally added_of counts_of sought_of search_of held_of rule_of lock_after when◌then◌else◌
runs_keep = (refl, refl, refl)

-- a lock at place 1, on symbol 35
pub lock_happens : LockOn 3 sizes 1 35
unfolding end_of
lock_happens = on_fourth 3 sizes 1 ((rule_tells 3 sizes 4 (keeps-all 3 sizes 4 runs_keep.0)).locked_only 1 0 runs.fourth_locks)

-- its loss, on symbol 59 at the latest
pub loss_happens : LossBy 3 sizes 59
unfolding end_of
loss_happens =
    let e = (rule_tells 3 sizes 11 (keeps-all 3 sizes 11 runs_keep.1)).loses_only runs.eighth_loses in
    record { at = e.0; period = 11; by = omega arith; eighth = e.1 }

-- a lock at place 2, on symbol 35 of the stretch after it
pub relock_happens : LockOn 3 later 2 35
unfolding end_of
relock_happens = on_fourth 3 later 2 ((rule_tells 3 later 4 (keeps-all 3 later 4 runs_keep.2)).locked_only 2 0 runs.relocks)
