-- As long as no push loses, no period that they complete does: the lock is what happened. Assumes nothing.
use Rattle.std.specs.Prelude.{Option}
use Rattle.sync_heads.specs.declared.FrameHead.{FrameHead}
use Prim.Native.Nat.{◌%◌, ◌*◌, ◌+◌, ◌-◌, ◌/◌, ◌<◌, ◌≤◌, suc, ℕ}
use Rattle.laws.proofs.Tests.{by_test, never}
use Rattle.laws.specs.Choice.{if_no, if_yes, when◌then◌else◌}
use Rattle.sync_history.proofs.Rule.{rule_tells}
use Rattle.sync_history.specs.Claims.{LockedBy, LosesIn, RuleTells, lock_to}
use Rattle.sync_history.specs.History.{LockBy, end_of, figures}
use Rattle.sync_lock.specs.Rule.{locked_at, rule_of}
use Rattle.sync_lock.specs.declared.Lock.TheVariants.{Locked, Search}
use Rattle.sync_lock.specs.declared.Lock.{Lock}
use Rattle.sync_lock.specs.declared.Verdict.TheVariants.{Loses}
use Rattle.sync_lock.specs.declared.Verdict.{Verdict}
use Rattle.sync_step.specs.Step.{is_locked, loses_of, offset_of}
use Rattle.sync_tie.proofs.Places.{parts}
use Rattle.sync_tie.specs.Pushes.{Push, size_at}
use Rattle.sync_tie.proofs.Story.{ends_at, lock_at, loses_at, period_loses, reads_at, taken_at}
use Rattle.sync_tie.proofs.Story.{Kept}
use borrow.Author.Tests.{eq-eqb, eqb-true}
use mathlib.Core.Bool.{false, true}
use mathlib.Core.List.{List}
use mathlib.Core.Path.{◌∙◌, ◌≡◌, ap, refl, sym}
use native.Mathlib.Nat.{le-div_iff_mul-le}
use native.Mathlib.Omega.{arith}

pub loses_is : (v : Verdict) → loses_of v ≡ false → ¬ (v ≡ Loses)
unfolding loses_of
loses_is v e q = never (sym (ap loses_of q) ∙ e)

pub locked_is : (k : Lock) → is_locked k ≡ true → (misses : ℕ) × (k ≡ Locked (offset_of k) misses)
unfolding is_locked offset_of
locked_is (Search cand count) e = absurd (never (sym e))
locked_is (Locked offset misses) e = (misses, refl)

pub locked_here : (k : Lock) (p : ℕ) → locked_at k p ≡ true → (misses : ℕ) × (k ≡ Locked p misses)
unfolding locked_at
locked_here (Search cand count) p e = absurd (never (sym e))
locked_here (Locked offset misses) p e = (misses, ap (λ (q : ℕ). Locked q misses) (sym (eqb-true p offset e)))

-- ---- the periods that end within m symbols
pub ends_within : (n j m : ℕ) → 0 < n → j < (m - 23) / n → end_of n j ≤ m
unfolding end_of
ends_within n j m z l = let b : suc j * n ≤ m - 23 = (le-div_iff_mul-le z).0 l in omega (arith, b, z)

pub within_ends : (n j m : ℕ) → 0 < n → end_of n j ≤ m → j < (m - 23) / n
unfolding end_of
within_ends n j m z b = let d : suc j * n ≤ m - 23 = omega (arith, b) in (le-div_iff_mul-le z).1 d

pub lock_by : (n : ℕ) (s : ℕ → ℕ) (p m : ℕ) → 0 < n → LockedBy n s p ((m - 23) / n) → LockBy n s p m
lock_by n s p m z l =
    record {
      on = end_of n l.period;
      by = ends_within n l.period m z l.before;
      falls = record { period = l.period; ends = refl; falls = l.falls };
    }

pub locked_by : (n : ℕ) (s : ℕ → ℕ) (p m : ℕ) → 0 < n → LockBy n s p m → LockedBy n s p ((m - 23) / n)
locked_by n s p m z l =
    record {
      period = l.falls.period;
      before = within_ends n l.falls.period m z (omega (arith, l.by, l.falls.ends));
      falls = l.falls.falls;
    }

module _ (n base : ℕ) (last : Option FrameHead) (h : List Push) where
  period-kept : (c : ℕ) → loses_at n base last h c ≡ false → ends_at n base last h c ≡ true → period_loses n base last h c ≡ false
  unfolding loses_at
  period-kept c e b =
      let t = (taken_at n base last h c).lost in
      let d = ends_at n base last h c in
      let w = period_loses n base last h c in
      by_test t
      (λ a. absurd (never (sym (if_yes t true (when d then w else false) a) ∙ e)))
      (λ a. sym (if_yes d w false b) ∙ sym (if_no t true (when d then w else false) a) ∙ e)

  verdict : (c j : ℕ) → c / n ≡ j → period_loses n base last h c ≡ loses_of (rule_of n (lock_to n (size_at h) j) (figures n (size_at h) j))
  unfolding period_loses lock_at
  verdict c j e = rw e

  ends_last : (c : ℕ) → c % n ≡ n - 1 → ends_at n base last h c ≡ true
  unfolding ends_at
  ends_last c e = eq-eqb (c % n) (n - 1) e

  pub no-loss : (m : ℕ) → 0 < n → Kept n base last h m → (j : ℕ) → j < (m - 23) / n → ¬ LosesIn n (size_at h) j
  unfolding end_of
  no-loss m z k j l =
      let d = parts n j (n - 1) z (omega arith) in
      let e = k (j * n + (n - 1)) (omega (arith, ends_within n j m z l)) in
      let f = period-kept (j * n + (n - 1)) e (ends_last (j * n + (n - 1)) d.1) in
      loses_is (rule_of n (lock_to n (size_at h) j) (figures n (size_at h) j)) (sym (verdict (j * n + (n - 1)) j d.0) ∙ f)

  pub rule-kept : (m : ℕ) → 0 < n → Kept n base last h m → RuleTells n (size_at h) ((m - 23) / n)
  rule-kept m z k = rule_tells n (size_at h) ((m - 23) / n) (no-loss m z k)

  -- a reading has the lock
  pub reads-locked : (c : ℕ) → reads_at n base last h c ≡ true → (misses : ℕ) × (lock_to n (size_at h) (c / n) ≡ Locked (c % n) misses)
  unfolding reads_at lock_at
  reads-locked c e = locked_here (lock_to n (size_at h) (c / n)) (c % n) e
