-- The fold of a stretch (Story) is what the rules say of it (specs/Stretch), as long as no position before has lost. Assumes nothing.
use Rattle.sync_heads.specs.declared.FrameHead.{FrameHead}
use Rattle.std.specs.Prelude.{Option, None, Some}
use Rattle.sync_heads.specs.declared.Head.{Head}
use Prim.Native.Nat.{◌%◌, ◌*◌, ◌+◌, ◌-◌, ◌/◌, ◌<◌, ◌≤◌, suc, zero, ℕ}
use Rattle.laws.proofs.Tests.{and_both, by_test, if_cong, neither, never}
use Rattle.laws.specs.Choice as choice
use Rattle.laws.specs.Choice.{if_no, if_yes, when◌then◌else◌}
use Rattle.sync_corr.specs.declared.Both.{Both}
use Rattle.sync_heads.specs.declared.Course.{Course}
use Rattle.sync_heads.specs.declared.Reading.{Reading}
use Rattle.sync_heads.specs.declared.Stage.{Stage}
use Rattle.sync_heads.specs.declared.Taken.{Taken}
use Rattle.sync_history.proofs.Course.{course_to}
use Rattle.sync_history.proofs.Figures.{first_greatest}
use Rattle.sync_history.proofs.Firsts.{by_first, first_found, first-is, first_stays}
use Rattle.sync_history.proofs.Found.{lock-found}
use Rattle.sync_history.proofs.Read.{ReadIs, course-last, course-missed, course-stray, course-zero, read_is, stage_to}
use Rattle.sync_history.specs.Claims.{RuleTells, lock_to}
use Rattle.sync_history.specs.Heads.{first_told, markers_lose, ssync_odd, position_at, second_told}
use Rattle.sync_history.specs.History.{LockIn, acc_after, eighth_at, figures, figures_to, first_to, fourth_at, lock_in}
use Rattle.sync_lock.specs.Period.{counts_of, no_tally}
use Rattle.sync_lock.specs.Rule.{locked_at, rule_of}
use Rattle.sync_lock.specs.declared.Lock.TheVariants.{Locked, Search}
use Rattle.sync_lock.specs.declared.Lock.{Lock}
use Rattle.sync_lock.specs.declared.Tally.{Tally}
use Rattle.sync_step.specs.Events.{event_of, heads_of, no_events, then_of}
use Rattle.sync_step.specs.Step.{is_locked, loses_of, offset_of, odd_of, locked_offset, started_of, stats_of}
use Rattle.sync_step.specs.declared.Event.TheVariants.{Lost, Nothing, Period}
use Rattle.sync_step.specs.declared.SyncStats.{SyncStats}
use Rattle.sync_tie.proofs.Early.{loses_true}
use Rattle.sync_tie.proofs.Heads.{taken-other, taken-reading}
use Rattle.sync_tie.proofs.Kept.{locked_is, rule-kept}
use Rattle.sync_tie.proofs.Places.{next_end, next_in_lem, place-less, whole}
use Rattle.sync_tie.proofs.Story as fold
use Rattle.sync_tie.proofs.Story.{Heard}
use Rattle.sync_tie.proofs.Track.{heard-next}
use Rattle.sync_tie.specs.Pushes.{Push, both_at, size_at}
use Rattle.sync_tie.specs.Stretch as rule
use Rattle.sync_tie.specs.Stretch.{both_in, count_in, eighth_in, heads_in, lock_before, markers_in, place_in, reads_in, record_in, start_in, stats_in, zeros}
use borrow.Author.Tests.{eqb-false, eqb-true, le-ltb, lt-ltb, ltb-false, ltb-true}
use lib.Dec.{eqb, leb, ltb}
use mathlib.Core.Bool.{Bool, ◌&&◌, ◌||◌, false, true}
use mathlib.Core.List.{List}
use mathlib.Core.Path.{◌∙◌, ◌≡◌, ap, refl, subst, sym}
use native.Mathlib.Nat.{zero-div}
use native.Mathlib.Omega.{arith}

-- a place that counts is a place of the period
pub place_in_lem : (n : ℕ) (s : ℕ → ℕ) (p k : ℕ) → LockIn n s p k → p < n
unfolding counts_of figures
place_in_lem n s p k l =
    let c = l.fourth.four k (omega arith) (omega arith) in
    let f : ℕ → ℕ = λ i. acc_after n s 0 i (suc k) in
    let b = and_both (ltb 0 (figures_to f n).peak) (leb (3 * (figures_to f n).sum) ((figures_to f n).peak * n)) c.counts in
    omega (arith, ((first_greatest f n).there (ltb-true 0 (figures_to f n).peak b.0)).0, c.place)

none_some : {f : ℕ} → (◌≡◌ {A = Option ℕ} None (Some f)) → ⊥
none_some e = let z : ◌≡◌ {A = ℕ} 0 1 = cc in omega arith

same_some : {f g : ℕ} → (◌≡◌ {A = Option ℕ} (Some f) (Some g)) → f ≡ g
same_some e = cc

locked_none : (k : Lock) (p : ℕ) → is_locked k ≡ false → locked_at k p ≡ false
unfolding is_locked locked_at
locked_none (Search cand count) p e = refl
locked_none (Locked offset misses) p e = absurd (never e)

module _ (n base : ℕ) (last : Option FrameHead) (h : List Push) where
  -- no position before c has lost, by the fold
  abbrev Before : ℕ → Type 0
  Before c = (i : ℕ) → i < c → fold.loses_at n base last h i ≡ false

  tells-before : (c : ℕ) → 0 < n → Before c → RuleTells n (size_at h) (c / n)
  tells-before c z k =
      let e : c + 23 - 23 ≡ c = omega arith in
      rw e at (rule-kept n base last h (c + 23) z (λ i l. k i (omega arith)))

  -- ---- the lock: the fold has it as the rule does
  module _ (k : ℕ) (t : RuleTells n (size_at h) k) where
    lock_none : lock_in n (size_at h) k ≡ None → is_locked (lock_to n (size_at h) k) ≡ false
    lock_none e =
        by_test (is_locked (lock_to n (size_at h) k))
        (λ u.
        let w = locked_is (lock_to n (size_at h) k) u in
        let b = t.locked_only (offset_of (lock_to n (size_at h) k)) w.0 w.1 in
        absurd (none_some (sym e ∙ ((lock-found n (size_at h) k).found (offset_of (lock_to n (size_at h) k)) b.period b.falls b.before).0)))
        (λ u. u)

    lock-some : (l : ℕ) → lock_in n (size_at h) k ≡ Some l → (misses : ℕ) × (lock_to n (size_at h) k ≡ Locked (place_in n base last h l) misses)
    unfolding place_in
    lock-some l e =
        let w = (lock-found n (size_at h) k).found_only l e in
        t.locked (figures n (size_at h) l).place (record { period = l; before = w.0; falls = w.1 })

    -- the period that loses
    ends_as : loses_of (rule_of n (lock_to n (size_at h) k) (figures n (size_at h) k)) ≡ true → (l : ℕ) × (lock_in n (size_at h) k ≡ Some l) × (eighth_at n (size_at h) l k ≡ true)
    ends_as e =
        let w = t.loses_only (loses_true (rule_of n (lock_to n (size_at h) k) (figures n (size_at h) k)) e) in
        (lock-found n (size_at h) k).eighth w.0 w.1

    as-ends : (l : ℕ) → lock_in n (size_at h) k ≡ Some l → eighth_at n (size_at h) l k ≡ true → loses_of (rule_of n (lock_to n (size_at h) k) (figures n (size_at h) k)) ≡ true
    unfolding loses_of
    as-ends l e x = ap loses_of (t.loses (figures n (size_at h) l).place ((lock-found n (size_at h) k).eighth_only l e x))

  -- ---- by the lock before position c
  pub by-lock : {X : Type 0} (c : ℕ) → (lock_before n base last h c ≡ None → X) → ((k : ℕ) → lock_before n base last h c ≡ Some k → X) → X
  unfolding lock_before
  by-lock c p q = by_first (fourth_at n (size_at h)) (c / n) p q

  reads_none : (c : ℕ) → 0 < n → Before c → lock_before n base last h c ≡ None → fold.reads_at n base last h c ≡ false
  unfolding lock_before fold.reads_at fold.lock_at
  reads_none c z k e = locked_none (lock_to n (size_at h) (c / n)) (c % n) (lock_none (c / n) (tells-before c z k) e)

  reads-some : (c l : ℕ) → 0 < n → Before c → lock_before n base last h c ≡ Some l → fold.reads_at n base last h c ≡ reads_in n base last h l c
  unfolding lock_before fold.reads_at fold.lock_at reads_in locked_at
  reads-some c l z k e = ap (λ (x : Lock). locked_at x (c % n)) (lock-some (c / n) (tells-before c z k) l e).1

  eighth-is : (c : ℕ) → 0 < n → Before c → fold.period_loses n base last h c ≡ rule.eighth_ends n base last h c
  unfolding lock_before fold.period_loses fold.lock_at rule.eighth_ends eighth_in
  eighth-is c z k =
      let t = tells-before c z k in
      let v = loses_of (rule_of n (lock_to n (size_at h) (c / n)) (figures n (size_at h) (c / n))) in
      by_first (fourth_at n (size_at h)) (c / n)
      (λ e. rw e (by_test v (λ u. let w = ends_as (c / n) t u in absurd (none_some (sym e ∙ w.1))) (λ u. u)))
      (λ l e. rw e (by_test v
      (λ u. let w = ends_as (c / n) t u in u ∙ sym (subst (λ (x : ℕ). eighth_at n (size_at h) x (c / n) ≡ true) (same_some (sym w.1 ∙ e)) w.2))
      (λ u. by_test (eighth_at n (size_at h) l (c / n)) (λ x. absurd (never (sym (as-ends (c / n) t l e x) ∙ u))) (λ x. u ∙ sym x))))

  -- ---- what the readings come to, by the rules
  unfoldable heard_in : Option ℕ → ℕ → Heard
  heard_in None c = record { stage = stage_to n base last (both_at h) 0; course = course_to n base last (both_at h) 0 }
  heard_in (Some k) c =
      record {
        stage = stage_to n (start_in n base last h k) last (both_in n base last h k) (count_in n base last h k c);
        course = course_to n (start_in n base last h k) last (both_in n base last h k) (count_in n base last h k c);
      }

  abbrev heard_by : ℕ → Heard
  heard_by c = heard_in (lock_before n base last h c) c

  -- nothing is read yet
  heard-zero : (k c : ℕ) → count_in n base last h k c ≡ 0 → heard_in (Some k) c ≡ heard_in None c
  unfolding heard_in stage_to
  heard-zero k c e = rw (e, course-zero n (start_in n base last h k) last (both_in n base last h k), course-zero n base last (both_at h))

  heard-start : fold.heard_to n base last h 0 ≡ heard_in None 0
  unfolding fold.heard_to heard_in stage_to
  heard-start = rw (course-zero n base last (both_at h))

  -- ---- the count
  count-behind : (k c : ℕ) → place_in n base last h k < c % n → count_in n base last h k c ≡ c / n - suc k + 1
  unfolding count_in
  count-behind k c l = ap (λ (x : ℕ). c / n - suc k + x) (if_yes (ltb (place_in n base last h k) (c % n)) 1 0 (lt-ltb (place_in n base last h k) (c % n) l))

  pub count-front : (k c : ℕ) → c % n ≤ place_in n base last h k → count_in n base last h k c ≡ c / n - suc k
  unfolding count_in
  count-front k c l =
      let e = if_no {A = ℕ} (ltb (place_in n base last h k) (c % n)) 1 0 (le-ltb (place_in n base last h k) (c % n) l) in
      ap (λ (x : ℕ). c / n - suc k + x) e ∙ omega arith

  -- .. with one position more
  module _ (k c : ℕ) (z : 0 < n) (l : k < c / n) (q : place_in n base last h k < n) where
    abbrev p : ℕ
    p = place_in n base last h k

    count-other : reads_in n base last h k c ≡ false → count_in n base last h k (suc c) ≡ count_in n base last h k c
    unfolding reads_in
    count-other e =
        let ne = eqb-false (c % n) p e in
        by_test (eqb (c % n) (n - 1))
        (λ t.
        let g = eqb-true (c % n) (n - 1) t in
        let d = next_end n c z g in
        let a = count-front k (suc c) (omega (arith, d.1)) in
        let b = count-behind k c (omega (arith, g, q, ne)) in
        omega (arith, a, b, d.0, l))
        (λ t.
        let g = eqb-false (c % n) (n - 1) t in
        let d = next_in_lem n c z (omega (arith, g, place-less n c z)) in
        by_test (ltb p (c % n))
        (λ u.
        let v = ltb-true p (c % n) u in
        let a = count-behind k (suc c) (omega (arith, d.1, v)) in
        let b = count-behind k c v in
        omega (arith, a, b, d.0))
        (λ u.
        let v = ltb-false p (c % n) u in
        let a = count-front k (suc c) (omega (arith, d.1, v, ne)) in
        let b = count-front k c v in
        omega (arith, a, b, d.0)))

    count_next : reads_in n base last h k c ≡ true → count_in n base last h k (suc c) ≡ suc (count_in n base last h k c)
    unfolding reads_in
    count_next e =
        let here = eqb-true (c % n) p e in
        let b = count-front k c (omega (arith, here)) in
        by_test (eqb (c % n) (n - 1))
        (λ t.
        let d = next_end n c z (eqb-true (c % n) (n - 1) t) in
        let a = count-front k (suc c) (omega (arith, d.1)) in
        omega (arith, a, b, d.0, l))
        (λ t.
        let d = next_in_lem n c z (omega (arith, eqb-false (c % n) (n - 1) t, place-less n c z)) in
        let a = count-behind k (suc c) (omega (arith, d.1, here)) in
        omega (arith, a, b, d.0, l))

    -- ---- reading c: its position and correlations
    module _ (e : reads_in n base last h k c ≡ true) where
      pub at_place : c ≡ (k + 1 + count_in n base last h k c) * n + p
      unfolding reads_in
      at_place =
          let here = eqb-true (c % n) p e in
          let b = count-front k c (omega (arith, here)) in
          let g : k + 1 + count_in n base last h k c ≡ c / n = omega (arith, b, l) in
          rw g (sym (whole n c) ∙ ap (λ (x : ℕ). c / n * n + x) here)

      both-here : both_at h c ≡ both_in n base last h k (count_in n base last h k c)
      unfolding both_in
      both-here = ap (both_at h) at_place

      position_here : base + c ≡ position_at n (start_in n base last h k) last (both_in n base last h k) (count_in n base last h k c)
      unfolding position_at start_in
      position_here = ap (λ (x : ℕ). base + x) at_place ∙ apart (count_in n base last h k c)
        where
          apart : (i : ℕ) → base + ((k + 1 + i) * n + p) ≡ base + ((k + 1) * n + p) + i * n
          apart i = omega arith

      reading-here : fold.reading_at n base last h c
          ≡ record { at = position_at n (start_in n base last h k) last (both_in n base last h k) (count_in n base last h k c); both = both_in n base last h k (count_in n base last h k c) }
      unfolding fold.reading_at
      reading-here = same position_here both-here
        where
          same : {a a' : ℕ} {x x' : Both} → a ≡ a' → x ≡ x' → ◌≡◌ {A = Reading} (record { at = a; both = x }) (record { at = a'; both = x' })
          same u v = rw (u, v)

  -- ---- what position c is taken for
  record Same (c : ℕ) : Type 0 where
    kept : Before c
    heard : fold.heard_to n base last h c ≡ heard_by c

  pub lock-falls : (c k : ℕ) → lock_before n base last h c ≡ Some k → (k < c / n) × (place_in n base last h k < n)
  unfolding lock_before place_in
  lock-falls c k e = let w = (lock-found n (size_at h) (c / n)).found_only k e in (w.0, place_in_lem n (size_at h) (figures n (size_at h) k).place k w.1)

  abbrev quiet : ℕ → Taken
  quiet c = record { lost = false; stage = (fold.heard_to n base last h c).stage; course = (fold.heard_to n base last h c).course; first = None; second = None }

  module _ (c : ℕ) (z : 0 < n) (s : Same c) where
    none-taken : lock_before n base last h c ≡ None → fold.taken_at n base last h c ≡ quiet c
    none-taken e = taken-other n base last h c (reads_none c z s.kept e)

    module _ (k : ℕ) (e : lock_before n base last h c ≡ Some k) where
      other-taken : reads_in n base last h k c ≡ false → fold.taken_at n base last h c ≡ quiet c
      other-taken r = taken-other n base last h c (reads-some c k z s.kept e ∙ r)

      abbrev i : ℕ
      i = count_in n base last h k c

      abbrev start : ℕ
      start = start_in n base last h k

      abbrev b : ℕ → Both
      b = both_in n base last h k

      heard-some : fold.heard_to n base last h c ≡ record { stage = stage_to n start last b i; course = course_to n start last b i }
      unfolding heard_in
      heard-some = s.heard ∙ ap (λ (o : Option ℕ). heard_in o c) e

      read_taken : reads_in n base last h k c ≡ true → ReadIs n start last b i (fold.taken_at n base last h c)
      read_taken r =
          let f = lock-falls c k e in
          subst (ReadIs n start last b i)
          (sym (taken-reading n base last h c (reads-some c k z s.kept e ∙ r) ∙ rw (heard-some, reading-here k c z f.0 f.1 r)))
          (read_is n start last b i z)

      markers-read : reads_in n base last h k c ≡ true → rule.markers_lose_at n base last h c ≡ markers_lose b i
      unfolding rule.markers_lose_at markers_in
      markers-read r = rw (e, r)

      markers-other : reads_in n base last h k c ≡ false → rule.markers_lose_at n base last h c ≡ false
      unfolding rule.markers_lose_at markers_in
      markers-other r = rw (e, r)

      heads-read : reads_in n base last h k c ≡ true → rule.heads_at n base last h c
          ≡ record { first = event_of (first_told n start last b i); second = event_of (second_told n start last b i); third = Nothing }
      unfolding rule.heads_at heads_in choice.when◌then◌else◌
      heads-read r = rw (e, r)

      heads-other : reads_in n base last h k c ≡ false → rule.heads_at n base last h c ≡ no_events
      unfolding rule.heads_at heads_in choice.when◌then◌else◌
      heads-other r = rw (e, r)

    markers-none : lock_before n base last h c ≡ None → rule.markers_lose_at n base last h c ≡ false
    unfolding rule.markers_lose_at markers_in
    markers-none e = rw e

    heads-none : lock_before n base last h c ≡ None → rule.heads_at n base last h c ≡ no_events
    unfolding rule.heads_at heads_in
    heads-none e = rw e

    -- lost, or not
    lost-is : (fold.taken_at n base last h c).lost ≡ rule.markers_lose_at n base last h c
    lost-is =
        by-lock c
        (λ e. ap (λ (x : Taken). x.lost) (none-taken e) ∙ sym (markers-none e))
        (λ k e. by_test (reads_in n base last h k c)
        (λ r. (read_taken k e r).lost ∙ sym (markers-read k e r))
        (λ r. ap (λ (x : Taken). x.lost) (other-taken k e r) ∙ sym (markers-other k e r)))

    -- heads
    quiet-heads : heads_of (quiet c) ≡ no_events
    unfolding heads_of event_of no_events
    quiet-heads = refl

    read-heads : (k : Taken) (f g : Option Head) → k.first ≡ f → k.second ≡ g → heads_of k ≡ record { first = event_of f; second = event_of g; third = Nothing }
    unfolding heads_of
    read-heads k f g u v = rw (u, v)

    heads-are : heads_of (fold.taken_at n base last h c) ≡ rule.heads_at n base last h c
    heads-are =
        by-lock c
        (λ e. ap heads_of (none-taken e) ∙ quiet-heads ∙ sym (heads-none e))
        (λ k e. by_test (reads_in n base last h k c)
        (λ r.
        let w = read_taken k e r in
        read-heads (fold.taken_at n base last h c) (first_told n (start k e) last (b k e) (i k e)) (second_told n (start k e) last (b k e) (i k e)) w.first w.second ∙ sym (heads-read k e r))
        (λ r. ap heads_of (other-taken k e r) ∙ quiet-heads ∙ sym (heads-other k e r)))

    -- ---- one position more
    lock-stays : (k : ℕ) → lock_before n base last h c ≡ Some k → lock_before n base last h (suc c) ≡ Some k
    unfolding lock_before
    lock-stays k e =
        by_test (eqb (c % n) (n - 1))
        (λ t. rw (next_end n c z (eqb-true (c % n) (n - 1) t)).0 (first_stays (fourth_at n (size_at h)) (c / n) k e))
        (λ t. rw (next_in_lem n c z (omega (arith, eqb-false (c % n) (n - 1) t, place-less n c z))).0 e)

    next-is : {t t' : Stage} {x x' : Course} → t ≡ t' → x ≡ x' → ◌≡◌ {A = Heard} (record { stage = t; course = x }) (record { stage = t'; course = x' })
    next-is u v = rw (u, v)

    heard-at : (k j : ℕ) → lock_before n base last h (suc c) ≡ Some k → count_in n base last h k (suc c) ≡ j →
        record { stage = stage_to n (start_in n base last h k) last (both_in n base last h k) j; course = course_to n (start_in n base last h k) last (both_in n base last h k) j } ≡ heard_by (suc c)
    unfolding heard_in
    heard-at k j e g = rw (e, g)

    next-some : (k : ℕ) → lock_before n base last h c ≡ Some k → rule.markers_lose_at n base last h c ≡ false → fold.heard_to n base last h (suc c) ≡ heard_by (suc c)
    next-some k e m =
        let f = lock-falls c k e in
        by_test (reads_in n base last h k c)
        (λ r.
        let w = read_taken k e r in
        heard-next n base last h c ∙ next-is w.stage (w.on (sym (markers-read k e r) ∙ m)) ∙ heard-at k (suc (i k e)) (lock-stays k e) (count_next k c z f.0 f.1 r))
        (λ r.
        heard-next n base last h c
        ∙ ap (λ (x : Taken). record { stage = x.stage; course = x.course }) (other-taken k e r)
        ∙ heard-some k e
        ∙ heard-at k (i k e) (lock-stays k e) (count-other k c z f.0 f.1 r))

    -- a lock that falls with this very period has no reading yet
    new-lock : (k : ℕ) → lock_before n base last h c ≡ None → lock_before n base last h (suc c) ≡ Some k → count_in n base last h k (suc c) ≡ 0
    unfolding lock_before
    new-lock k e g =
        let w = first-is (fourth_at n (size_at h)) (suc c / n) k g in
        by_test (eqb (c % n) (n - 1))
        (λ t.
        let d = next_end n c z (eqb-true (c % n) (n - 1) t) in
        let a = count-front k (suc c) (omega (arith, d.1)) in
        by_test (ltb k (c / n))
        (λ u. absurd (none_some (sym e ∙ first_found (fourth_at n (size_at h)) (c / n) k w.1 (ltb-true k (c / n) u))))
        (λ u. omega (arith, a, d.0, w.0, ltb-false k (c / n) u)))
        (λ t. absurd (none_some (sym e ∙ sym (rw (next_in_lem n c z (omega (arith, eqb-false (c % n) (n - 1) t, place-less n c z))).0) ∙ g)))

    heard-none : lock_before n base last h c ≡ None → fold.heard_to n base last h c ≡ heard_in None c
    heard-none e = s.heard ∙ ap (λ (o : Option ℕ). heard_in o c) e

    none-anywhere : heard_in None c ≡ heard_in None (suc c)
    unfolding heard_in
    none-anywhere = refl

    next-none : lock_before n base last h c ≡ None → fold.heard_to n base last h (suc c) ≡ heard_by (suc c)
    next-none e =
        heard-next n base last h c
        ∙ ap (λ (x : Taken). record { stage = x.stage; course = x.course }) (none-taken e)
        ∙ heard-none e
        ∙ none-anywhere
        ∙ by-lock (suc c)
        (λ g. ap (λ (o : Option ℕ). heard_in o (suc c)) (sym g))
        (λ k g. sym (heard-zero k (suc c) (new-lock k e g)) ∙ ap (λ (o : Option ℕ). heard_in o (suc c)) (sym g))

    next-heard : rule.markers_lose_at n base last h c ≡ false → fold.heard_to n base last h (suc c) ≡ heard_by (suc c)
    next-heard m = by-lock c next-none (λ k e. next-some k e m)

    -- ---- it loses, or not
    ends_is : fold.ends_at n base last h c ≡ rule.ends_at n base last h c
    unfolding fold.ends_at rule.ends_at
    ends_is = refl

    either_is : (a b d : Bool) → (when a then true else when b then d else false) ≡ (a || (b && d))
    unfolding choice.when◌then◌else◌
    either_is true b d = refl
    either_is false true d = refl
    either_is false false d = refl

    loses_is : fold.loses_at n base last h c ≡ rule.loses_at n base last h c
    unfolding fold.loses_at rule.loses_at
    loses_is =
        rw (lost-is, ends_is, eighth-is c z s.kept)
        (either_is (rule.markers_lose_at n base last h c) (rule.ends_at n base last h c) (rule.eighth_ends n base last h c))

    markers_kept : rule.loses_at n base last h c ≡ false → rule.markers_lose_at n base last h c ≡ false
    unfolding rule.loses_at
    markers_kept e = (neither (rule.markers_lose_at n base last h c) (rule.ends_at n base last h c && rule.eighth_ends n base last h c) e).0

    same_next : rule.loses_at n base last h c ≡ false → Same (suc c)
    same_next e = record { kept = λ j l. by_test (eqb j c) (λ t. rw (eqb-true j c t) (loses_is ∙ e)) (λ t. s.kept j (omega (arith, l, eqb-false j c t))); heard = next-heard (markers_kept e) }

  first-lock : heard_in None 0 ≡ heard_by 0
  unfolding lock_before first_to
  first-lock = rw (zero-div n)

  same : (c : ℕ) → 0 < n → ((j : ℕ) → j < c → rule.loses_at n base last h j ≡ false) → Same c
  same zero z k = record { kept = λ j l. absurd (omega arith); heard = heard-start ∙ first-lock }
  same (suc c) z k = same_next c z (same c z (λ j l. k j (omega arith))) (k c (omega arith))

  -- ---- the frame record
  heard-last : (o : Option ℕ) (c : ℕ) → (heard_in o c).course.last ≡ record_in n base last h o c
  unfolding heard_in record_in
  heard-last None c = ap (λ (x : Course). x.last) (course-zero n base last (both_at h))
  heard-last (Some k) c = course-last n (start_in n base last h k) last (both_in n base last h k) (count_in n base last h k c)

  record-before : (c : ℕ) → Same c → (fold.heard_to n base last h c).course.last ≡ rule.record_before n base last h c
  unfolding rule.record_before
  record-before c s = ap (λ (x : Heard). x.course.last) s.heard ∙ heard-last (lock_before n base last h c) c

  record-lost : (c : ℕ) → 0 < n → Same c → rule.markers_lose_at n base last h c ≡ true → (fold.taken_at n base last h c).course.last ≡ rule.record_before n base last h c
  unfolding rule.record_before record_in
  record-lost c z s m =
      by-lock c
      (λ e. absurd (never (sym m ∙ markers-none c z s e)))
      (λ k e. by_test (reads_in n base last h k c)
      (λ r. (read_taken c z s k e r).last (sym (markers-read c z s k e r) ∙ m) ∙ sym (rw e))
      (λ r. absurd (never (sym m ∙ markers-other c z s k e r))))

  record_is : (c : ℕ) → 0 < n → Same c → fold.record_at n base last h c ≡ rule.record_at n base last h c
  unfolding fold.record_at rule.record_at rule.record_before
  record_is c z s =
      let m = rule.markers_lose_at n base last h c in
      let x = rule.record_before n base last h c in
      let y = rule.record_before n base last h (suc c) in
      by_test m
      (λ t. record-lost c z s t ∙ sym (if_yes m x y t))
      (λ t. sym (ap (λ (g : Heard). g.course.last) (heard-next n base last h c)) ∙ ap (λ (g : Heard). g.course.last) (next-heard c z s t) ∙ heard-last (lock_before n base last h (suc c)) (suc c) ∙ sym (if_no m x y t))

  -- ---- the period's end
  offset-none : (k : Lock) → is_locked k ≡ false → locked_offset k ≡ None
  unfolding is_locked locked_offset
  offset-none (Search cand count) e = refl
  offset-none (Locked offset misses) e = absurd (never e)

  odd-is : (start : ℕ) (b : ℕ → Both) (i : ℕ) → odd_of (stage_to n start last b i) ≡ (when ltb i 2 then false else ssync_odd b)
  unfolding stage_to odd_of
  odd-is start b zero = sym (if_yes (ltb 0 2) false (ssync_odd b) (lt-ltb 0 2 (omega arith)))
  odd-is start b (suc zero) = sym (if_yes (ltb 1 2) false (ssync_odd b) (lt-ltb 1 2 (omega arith)))
  odd-is start b (suc (suc i)) = sym (if_no (ltb (suc (suc i)) 2) false (ssync_odd b) (le-ltb (suc (suc i)) 2 (omega arith)))

  stats-eq : (y : Tally) {o o' : Option ℕ} {q q' : Bool} {a a' d d' : ℕ} → o ≡ o' → q ≡ q' → a ≡ a' → d ≡ d' →
      ◌≡◌ {A = SyncStats}
      (record { peak = y.peak; peak_pos = y.place; sum = y.sum; offset = o; ssync_odd = q; stray_markers = a; missed_markers = d })
      (record { peak = y.peak; peak_pos = y.place; sum = y.sum; offset = o'; ssync_odd = q'; stray_markers = a'; missed_markers = d' })
  stats-eq y v w x t = rw (v, w, x, t)

  module _ (c : ℕ) (z : 0 < n) (s : Same (suc c)) (e : fold.ends_at n base last h c ≡ true) where
    ended : suc c / n ≡ suc (c / n)
    unfolding fold.ends_at
    ended = (next_end n c z (eqb-true (c % n) (n - 1) e)).0

    taken_next : (o : Option ℕ) → lock_before n base last h (suc c) ≡ o → ◌≡◌ {A = Heard} (record { stage = (fold.taken_at n base last h c).stage; course = (fold.taken_at n base last h c).course }) (heard_in o (suc c))
    taken_next o g = sym (heard-next n base last h c) ∙ s.heard ∙ ap (λ (x : Option ℕ). heard_in x (suc c)) g

    tells-end : RuleTells n (size_at h) (suc (c / n))
    tells-end = subst (RuleTells n (size_at h)) ended (tells-before (suc c) z s.kept)

    lock-end : (o : Option ℕ) → lock_before n base last h (suc c) ≡ o → lock_in n (size_at h) (suc (c / n)) ≡ o
    unfolding lock_before
    lock-end o g = sym (ap (lock_in n (size_at h)) ended) ∙ g

    none-odd : odd_of (heard_in None (suc c)).stage ≡ false
    unfolding heard_in stage_to odd_of
    none-odd = refl

    none-stray : (heard_in None (suc c)).course.stray ≡ 0
    unfolding heard_in
    none-stray = ap (λ (x : Course). x.stray) (course-zero n base last (both_at h))

    none-missed : (heard_in None (suc c)).course.missed ≡ 0
    unfolding heard_in
    none-missed = ap (λ (x : Course). x.missed) (course-zero n base last (both_at h))

    stats-none : lock_before n base last h (suc c) ≡ None → fold.stats_at n base last h c ≡ rule.stats_at n base last h c
    unfolding fold.stats_at rule.stats_at stats_in
    stats-none g =
        let w = taken_next None g in
        let u = lock_none (suc (c / n)) tells-end (lock-end None g) in
        rw g
        (stats-eq (figures n (size_at h) (c / n)) (offset-none (lock_to n (size_at h) (suc (c / n))) u)
        (ap (λ (x : Heard). odd_of x.stage) w ∙ none-odd)
        (ap (λ (x : Heard). x.course.stray) w ∙ none-stray)
        (ap (λ (x : Heard). x.course.missed) w ∙ none-missed))

    stats-some : (k : ℕ) → lock_before n base last h (suc c) ≡ Some k → fold.stats_at n base last h c ≡ rule.stats_at n base last h c
    unfolding fold.stats_at rule.stats_at stats_in heard_in locked_offset
    stats-some k g =
        let w = taken_next (Some k) g in
        let u = lock-some (suc (c / n)) tells-end k (lock-end (Some k) g) in
        let b = both_in n base last h k in
        let start = start_in n base last h k in
        let i = count_in n base last h k (suc c) in
        rw g
        (stats-eq (figures n (size_at h) (c / n)) (ap locked_offset u.1)
        (ap (λ (x : Heard). odd_of x.stage) w ∙ odd-is start b i)
        (ap (λ (x : Heard). x.course.stray) w ∙ course-stray n start last b i)
        (ap (λ (x : Heard). x.course.missed) w ∙ course-missed n start last b i))

    stats-is : fold.stats_at n base last h c ≡ rule.stats_at n base last h c
    stats-is = by-lock (suc c) stats-none stats-some

  -- ---- what is told
  zeros-is : (at : ℕ) (r : Option FrameHead) → stats_of (started_of at r) ≡ zeros
  unfolding stats_of started_of zeros no_tally locked_offset odd_of
  zeros-is at r = refl

  none_lost : (c : ℕ) → rule.markers_lose_at n base last h c ≡ false → rule.eighth_ends n base last h c ≡ false → rule.loses_at n base last h c ≡ false
  unfolding rule.loses_at
  none_lost c t v = rw (t, v) (and_none (rule.ends_at n base last h c))
    where
      and_none : (a : Bool) → (a && false) ≡ false
      and_none true = refl
      and_none false = refl

  told_is : (c : ℕ) → 0 < n → Same c → fold.told_at n base last h c ≡ rule.told_at n base last h c
  unfolding fold.told_at rule.told_at
  told_is c z s =
      let m = rule.markers_lose_at n base last h c in
      let d = rule.ends_at n base last h c in
      let p = rule.eighth_ends n base last h c in
      let hs = rule.heads_at n base last h c in
      let next = base + c + 24 in
      let lost = then_of hs (Lost next) in
      rw (heads-are c z s, zeros-is next (fold.taken_at n base last h c).course.last, lost-is c z s, ends_is c z s, eighth-is c z s.kept)
      (if_cong m (when d then then_of lost (Period zeros) else lost) (when d then (when p then lost else then_of hs (Period (fold.stats_at n base last h c))) else hs)
      (when d then then_of lost (Period zeros) else lost) (when d then (when p then lost else then_of hs (Period (rule.stats_at n base last h c))) else hs)
      (λ t. refl)
      (λ t. if_cong d (when p then lost else then_of hs (Period (fold.stats_at n base last h c))) hs (when p then lost else then_of hs (Period (rule.stats_at n base last h c))) hs
      (λ u. if_cong p lost (then_of hs (Period (fold.stats_at n base last h c))) lost (then_of hs (Period (rule.stats_at n base last h c)))
      (λ v. refl)
      (λ v. ap (λ (x : SyncStats). then_of hs (Period x)) (stats-is c z (same_next c z s (none_lost c t v)) (ends_is c z s ∙ u))))
      (λ u. refl)))

-- ---- for as long as no position before has lost, by the rules
pub record Ruled (n base : ℕ) (last : Option FrameHead) (h : List Push) (c : ℕ) : Type 0 where
  pub kept : (i : ℕ) → i < c → fold.loses_at n base last h i ≡ false
  pub lost : (fold.taken_at n base last h c).lost ≡ rule.markers_lose_at n base last h c
  pub eighth : fold.period_loses n base last h c ≡ rule.eighth_ends n base last h c
  pub loses : fold.loses_at n base last h c ≡ rule.loses_at n base last h c
  pub told : fold.told_at n base last h c ≡ rule.told_at n base last h c
  pub before : (fold.heard_to n base last h c).course.last ≡ rule.record_before n base last h c
  pub record_is : fold.record_at n base last h c ≡ rule.record_at n base last h c

pub ruled : (n base : ℕ) (last : Option FrameHead) (h : List Push) (c : ℕ) → 0 < n → ((i : ℕ) → i < c → rule.loses_at n base last h i ≡ false) → Ruled n base last h c
ruled n base last h c z k =
    let s = same n base last h c z k in
    record {
      kept = s.kept;
      lost = lost-is n base last h c z s;
      eighth = eighth-is n base last h c z s.kept;
      loses = loses_is n base last h c z s;
      told = told_is n base last h c z s;
      before = record-before n base last h c s;
      record_is = record_is n base last h c z s;
    }
