-- The claims of specs/Claims.antt. Assumes nothing.
use Rattle.std.specs.Prelude.{Option}
use Rattle.sync_heads.specs.declared.FrameHead.{FrameHead}
use Prim.Native.Nat.{◌%◌, ◌+◌, ◌-◌, ◌/◌, ◌<◌, ◌≤◌, suc, ℕ}
use Rattle.laws.proofs.Tests.{by_test, never}
use Rattle.sync_history.proofs.Theorems.{lock_theorem, no_lock_before}
use Rattle.sync_history.specs.Claims.{RuleTells, lock_to}
use Rattle.sync_history.specs.History.{LockIn}
use Rattle.sync_lock.specs.Rule.{locked_at}
use Rattle.sync_lock.specs.declared.Lock.TheVariants.{Locked}
use Rattle.sync_lock.specs.declared.Lock.{Lock}
use Rattle.sync_step.specs.Step.{is_locked, offset_of}
use Rattle.sync_step.specs.declared.Run.{Run}
use Rattle.sync_tie.proofs.Early.{kept-early}
use Rattle.sync_tie.proofs.Follow.{follows}
use Rattle.sync_tie.proofs.Heads.{begun-after, reading-tells, tells-late, tells_none, told_none}
use Rattle.sync_tie.proofs.Kept.{lock_by, locked_by, locked_is, reads-locked, rule-kept}
use Rattle.sync_tie.proofs.Places.{parts}
use Rattle.sync_tie.specs.Claims.{KeptClaim, HeadClaim, LockClaim, NoLockClaim, ReadingClaim, RelockClaim, after, any_head, reading}
use Rattle.sync_tie.specs.Pushes.{Push, size_at}
use Rattle.sync_tie.proofs.Story.{lock_at, reads_at, taken_at, tells, told_at}
use Rattle.sync_tie.proofs.Theorems.{kept-fold, kept_rule, ruled-at, tells-same}
use Rattle.sync_tie.specs.Stretch as Stretch
use Rattle.sync_tie.proofs.Story.{Kept}
use borrow.Author.Tests.{eq-eqb, ltb-false, ltb-true}
use lib.Dec.{lit≤, ltb}
use lib.ListN.{length}
use mathlib.Core.Bool.{true}
use mathlib.Core.List.{List}
use mathlib.Core.Path.{◌∙◌, ◌≡◌, ap, sym}
use native.Mathlib.Omega.{arith}
-- for every list of pushes: the loss by markers
pub use Rattle.sync_tie.proofs.Markers.{markers_are}

module _ (n base : ℕ) (last : Option FrameHead) (h : List Push) where
  lock-is : (m : ℕ) → 0 < n → m ≤ length h → Kept n base last h m → (after n base last h m).sync.run.lock ≡ lock_to n (size_at h) ((m - 23) / n)
  unfolding lock_at
  lock-is m z l k = ap (λ (u : Run). u.lock) (follows n base last h m z l k).run

  -- a position at the locked place is a reading
  locked-reads : (c p misses : ℕ) → c % n ≡ p → lock_to n (size_at h) (c / n) ≡ Locked p misses → reads_at n base last h c ≡ true
  unfolding reads_at lock_at locked_at
  locked-reads c p misses e q = ap (λ (k : Lock). locked_at k (c % n)) q ∙ eq-eqb (c % n) p e

pub lock_told : LockClaim
unfolding is_locked offset_of
lock_told n base last h m z l k =
    let e = lock-is n base last h m z l (kept-fold n base last h m z k) in
    let t = rule-kept n base last h m z (kept-fold n base last h m z k) in
    record {
      locked = λ p b. let w = t.locked p (locked_by n (size_at h) p m z b) in (ap is_locked (e ∙ w.1), ap offset_of (e ∙ w.1));
      locked_only =
          λ b.
          let q = (after n base last h m).sync.run.lock in
          let w = locked_is q b in
          lock_by n (size_at h) (offset_of q) m z (t.locked_only (offset_of q) w.0 (sym e ∙ w.1));
    }

pub heads_after_lock : HeadClaim
heads_after_lock n base last h m z l k =
    let g = kept-fold n base last h m z k in
    record {
      after-lock =
          λ x.
          let a : any_head (tells n base last h m) ≡ true = ap any_head (tells-same n base last h m z k) ∙ x in
          by_test (ltb m 23)
          (λ t. absurd (never (sym a ∙ tells_none n base last h m (ltb-true m 23 t))))
          (λ t.
          by_test (reads_at n base last h (m - 23))
          (λ r.
          let w = reads-locked n base last h (m - 23) r in
          ((m - 23) % n, lock_by n (size_at h) ((m - 23) % n) m z ((rule-kept n base last h m z g).locked_only ((m - 23) % n) w.0 w.1)))
          (λ r. absurd (never (sym a ∙ ap any_head (tells-late n base last h m (ltb-false m 23 t)) ∙ told_none n base last h (m - 23) r))));
    }

-- each reading after the lock in period k is a reading, if nothing has lost before
is_reading : (n base : ℕ) (last : Option FrameHead) (h : List Push) (k p j : ℕ) → 0 < n → p < n → LockIn n (size_at h) p k → Kept n base last h (reading n base last h k p j + 23) →
    reads_at n base last h (reading n base last h k p j) ≡ true
is_reading n base last h k p j z b f kept =
    let d = parts n (k + 1 + j) p z b in
    let c = reading n base last h k p j in
    let e : c + 23 - 23 ≡ c = omega arith in
    let t : RuleTells n (size_at h) (k + 1 + j) = rw (e, d.0) at (rule-kept n base last h (c + 23) z kept) in
    let w = t.locked p (record { period = k; before = omega arith; falls = f }) in
    locked-reads n base last h c p w.0 d.1 (rw d.0 w.1)

pub readings_tell : ReadingClaim
readings_tell n base last h k p j z b f l kept =
    let c = reading n base last h k p (suc j) in
    let d = reading n base last h k p 0 in
    let g = kept-fold n base last h (c + 23) z kept in
    let less : d < c = omega (arith, z) in
    let r = is_reading n base last h k p (suc j) z b f g in
    let r₀ = is_reading n base last h k p 0 z b f (λ i y. g i (omega (arith, z))) in
    let e : c + 23 - 23 ≡ c = omega arith in
    let told : Stretch.tells n base last h (c + 23) ≡ told_at n base last h c =
    sym (tells-same n base last h (c + 23) z kept) ∙ (rw e at (tells-late n base last h (c + 23) (omega arith))) in
    let lost : (taken_at n base last h c).lost ≡ Stretch.markers_lose_at n base last h c = rw e at (ruled-at n base last h (c + 23) z kept).lost in
    record { head = λ x. rw told (reading-tells n base last h c r (begun-after n base last h d r₀ c less) (lost ∙ x)) }

-- ---- at 9,296
pub kept-before : KeptClaim
kept-before base last h m b = kept_rule 9296 base last h m (lit≤ tt) (kept-early 9296 base last h m (lit≤ tt) b)

pub no_lock : NoLockClaim
no_lock base last h m b l =
    let t = lock_told 9296 base last h m (lit≤ tt) l (kept-before base last h m (omega arith)) in
    let q = (after 9296 base last h m).sync.run.lock in
    by_test (is_locked q) (λ e. absurd (no_lock_before (size_at h) (offset_of q) m b (t.locked_only e))) (λ e. e)

pub relocks : RelockClaim
relocks base place P Q last h pr =
    let w = lock_theorem place P Q (size_at h) (length h) pr in
    record {
      not_before = λ m b l. no_lock base last h m b l;
      falls = λ b.
          (lock_told 9296 base last h 37207 (lit≤ tt) b (kept-before base last h 37207 (lit≤ tt))).locked place
          (record { on = 37207; by = lit≤ tt; falls = w.falls b });
      lasts = w.lasts;
    }
