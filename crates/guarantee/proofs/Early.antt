-- Nothing loses before a lock: a loss comes only after a lock on an earlier symbol of its stretch. Assumes nothing.
use Prim.Native.Nat.{ℕ, suc, ◌≤◌}
use Rattle.guarantee.proofs.Causes.{Cause, causes, lost-grows}
use Rattle.guarantee.proofs.Tied.{Tied}
use Rattle.guarantee.specs.Calls.{Call, System}
use Rattle.guarantee.specs.Demand.{stretch_with}
use Rattle.guarantee.specs.History.{History, loses_by}
use Rattle.sync_history.specs.History.{LockBy, LockIn, end_of}
use Rattle.sync_tie.specs.Pushes.{Push, size_at}
use lib.ListN.{length}
use mathlib.Core.Bool.{true}
use mathlib.Core.List.{List}
use mathlib.Core.Logic.{inl, inr}
use mathlib.Core.Path.{◌≡◌, refl}
use native.Mathlib.Omega.{arith}

module _ (g : List Push) (m : ℕ) where
  lock_by : (p k : ℕ) → LockIn 9296 (size_at g) p k → end_of 9296 k ≤ m → LockBy 9296 (size_at g) p m
  lock_by p k f b = record { on = end_of 9296 k; by = b; falls = record { period = k; ends = refl; falls = f } }

  -- of markers, the reading stands in a later period; of periods, eight are
  cause-locked : length g ≡ suc m → Cause g m → (p : ℕ) × LockBy 9296 (size_at g) p m
  unfolding end_of
  cause-locked n (inl x) = (x.place, lock_by x.place x.period x.falls (omega (arith, x.reading)))
  cause-locked n (inr (p, k, x, e)) = (p, lock_by p x.locked x.falls (omega (arith, n, e, x.after)))

pub lost_locked : (s : System) (h : History) → Tied s h → (c : Call) → loses_by h c ≡ true → (p : ℕ) × LockBy 9296 (size_at (stretch_with h c)) p (length h.pushes)
lost_locked s h t c e = cause-locked (stretch_with h c) (length h.pushes) (lost-grows s h t c e) (causes s h t c e)
