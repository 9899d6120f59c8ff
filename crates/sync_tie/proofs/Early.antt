-- The first 4 n + 23 symbols lose nothing, whatever they are: `Kept` holds of them. Assumes nothing.
use Rattle.std.specs.Prelude.{Option}
use Rattle.sync_heads.specs.declared.FrameHead.{FrameHead}
use Prim.Native.Nat.{◌%◌, ◌*◌, ◌+◌, ◌/◌, ◌<◌, ◌≤◌, suc, zero, ℕ}
use Rattle.laws.proofs.Tests.{by_test, if_both, never}
use Rattle.laws.specs.Choice.{if_no, when◌then◌else◌}
use Rattle.sync_heads.specs.declared.Taken.{Taken}
use Rattle.sync_history.proofs.Rule.{rule_tells}
use Rattle.sync_history.specs.Claims.{LosesIn, lock_to}
use Rattle.sync_history.specs.History.{figures}
use Rattle.sync_lock.specs.Rule.{rule_of}
use Rattle.sync_lock.specs.declared.Verdict.TheVariants.{Holds, Locks, Loses, Seeks}
use Rattle.sync_lock.specs.declared.Verdict.{Verdict}
use Rattle.sync_step.specs.Step.{loses_of}
use Rattle.sync_tie.proofs.Heads.{taken-other}
use Rattle.sync_tie.proofs.Kept.{reads-locked}
use Rattle.sync_tie.specs.Pushes.{Push, size_at}
use Rattle.sync_tie.proofs.Story.{ends_at, lock_at, loses_at, period_loses, reads_at, taken_at}
use Rattle.sync_tie.proofs.Story.{Kept}
use lib.Dec.{lit≤}
use mathlib.Core.Bool.{Bool, false, true}
use mathlib.Core.List.{List}
use mathlib.Core.Path.{◌∙◌, ◌≡◌, ap, refl, sym}
use native.Mathlib.Nat.{div-lt_iff_lt-mul}
use native.Mathlib.Omega.{arith}

pub loses_true : (v : Verdict) → loses_of v ≡ true → v ≡ Loses
unfolding loses_of
loses_true (Seeks cand count) e = absurd (never (sym e))
loses_true (Locks offset) e = absurd (never (sym e))
loses_true (Holds offset misses) e = absurd (never (sym e))
loses_true Loses e = refl

-- an eighth other period after the lock comes with period 11 at the earliest
none_loses : (n : ℕ) (s : ℕ → ℕ) (k : ℕ) → k ≤ 11 → (j : ℕ) → j < k → ¬ LosesIn n s j
none_loses n s zero b j l = absurd (omega arith)
none_loses n s (suc k) b j l =
    λ q. let w = ((rule_tells n s j (λ i g. none_loses n s k (omega arith) i (omega arith))).loses_only q).1 in omega (arith, w.after, w.falls.fourth.enough)

module _ (n base : ℕ) (last : Option FrameHead) (h : List Push) where
  none_reads : (c : ℕ) → c / n < 4 → reads_at n base last h c ≡ false
  none_reads c b =
      by_test (reads_at n base last h c)
      (λ r.
      let w = reads-locked n base last h c r in
      let t = (rule_tells n (size_at h) (c / n) (none_loses n (size_at h) (c / n) (omega arith))).locked_only (c % n) w.0 w.1 in
      absurd (omega (arith, t.before, t.falls.fourth.enough)))
      (λ r. r)

  none-ends : (c : ℕ) → c / n < 4 → period_loses n base last h c ≡ false
  unfolding period_loses lock_at
  none-ends c b =
      let v = rule_of n (lock_to n (size_at h) (c / n)) (figures n (size_at h) (c / n)) in
      by_test (loses_of v) (λ e. absurd (none_loses n (size_at h) 4 (lit≤ tt) (c / n) b (loses_true v e))) (λ e. e)

  pub kept-early : (m : ℕ) → 0 < n → m ≤ 4 * n + 23 → Kept n base last h m
  unfolding loses_at
  kept-early m z b c l =
      let q : c / n < 4 = (div-lt_iff_lt-mul z).1 (omega (arith, b, l)) in
      let t = (taken_at n base last h c).lost in
      let d = ends_at n base last h c in
      let w = period_loses n base last h c in
      if_no t true (when d then w else false) (ap (λ (k : Taken). k.lost) (taken-other n base last h c (none_reads c q)))
      ∙ if_both (λ (x : Bool). x ≡ false) d w false (none-ends c q) refl
