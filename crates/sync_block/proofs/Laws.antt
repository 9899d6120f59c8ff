-- A quiet symbol changes window, figures and one accumulator; how far a run stays quiet. Assumes nothing.
use Rattle.std.specs.Prelude.{None}
use Prim.Native.Nat.{◌+◌, ◌-◌, ◌<◌, ◌^◌, ◌≤◌, suc, ℕ}
use Rattle.laws.proofs.Tests.{and_both, by_test}
use Rattle.laws.specs.Choice.{if_no, if_yes}
use Rattle.sync.specs.Sync.{symbol_of, window_after}
use Rattle.sync.specs.declared.SlotSync.{SlotSync}
use Rattle.sync_block.specs.Reach.{loud, loud_place, reach_of, until_loud}
use Rattle.sync_block.specs.Quiet.{Ahead}
use Rattle.sync_corr.specs.Correlate.{both_of, size_of}
use Rattle.sync_corr.specs.declared.Both.{Both}
use Rattle.sync_heads.specs.Ranges.{course_in_range, stage_in_range}
use Rattle.sync_heads.specs.declared.Taken.{Taken}
use Rattle.sync_lock.specs.Period.{leak_of}
use Rattle.sync_lock.specs.Ranges.{lock_in_range, tally_in_range}
use Rattle.sync_lock.specs.Rule.{locked_at}
use Rattle.sync_lock.specs.declared.Lock.TheVariants.{Locked, Search}
use Rattle.sync_lock.specs.declared.Lock.{Lock}
use Rattle.sync_step.specs.Events.{heads_of}
use Rattle.sync_step.specs.Ranges.{RunOk, run_in_range}
use Rattle.sync_step.specs.Step.{after_of, is_locked, kept_of, late_of, offset_of, place_of, step_of}
use Rattle.sync_step.specs.declared.Run.{Run}
use borrow.Author.Tests.{eq-eqb, le-leb, le-ltb, leb-false, leb-true, lt-ltb, ltb-false, ltb-true, ne_eqb}
use lib.Dec.{eqb, leb, ltb}
use lib.IntN.{ℤ}
use lib.ListN.{drop, get_or, length, length-append, length-drop}
use mathlib.Core.Bool.{Bool, ◌&&◌, ◌||◌, false, true}
use mathlib.Core.List.{List, [], ◌∷◌}
use mathlib.Core.Path.{◌∙◌, ◌≡◌, refl}
use native.Mathlib.Nat.{mod-lt}
use native.Mathlib.Omega.{arith}
use Rattle.sync_step.specs.Step.{taken_of as step_taken}

-- ---- one quiet symbol
abbrev pub silent : Run → Taken
silent r = record { lost = false; stage = r.stage; course = r.course; first = None; second = None }

taken_quiet : (n : ℕ) (r : Run) (p : ℕ) (b : Both) → locked_at r.lock p ≡ false → step_taken n r p b ≡ silent r
unfolding step_taken
taken_quiet n r p b e = if_no (locked_at r.lock p) _ _ e

late_quiet : (n : ℕ) (r : Run) (b : Both) (a p : ℕ) → place_of n r.t ≡ p → locked_at r.lock p ≡ false → eqb p (n - 1) ≡ false →
    late_of n r b a ≡ kept_of (after_of r p (leak_of a (size_of b)) (silent r)) (record { both = b; level = leak_of a (size_of b) }) (heads_of (silent r))
unfolding late_of
late_quiet n r b a p ep el ee = rw (ep, taken_quiet n r p b el) (if_no false _ _ refl ∙ if_no (eqb p (n - 1)) _ _ ee)

abbrev pub both_at : SlotSync → ℤ → ℤ → List ℤ → List ℤ → Both
both_at s i q f w = both_of (window_after s.win i q) f w

abbrev pub level_at : SlotSync → ℤ → ℤ → List ℤ → List ℤ → List ℕ → ℕ → ℕ
level_at s i q f w acc p = leak_of (get_or acc p 0) (size_of (both_at s i q f w))

pub symbol-quiet : (s : SlotSync) (i q : ℤ) (f w : List ℤ) (acc : List ℕ) (p : ℕ) →
    23 ≤ s.run.t → place_of 9296 s.run.t ≡ p → locked_at s.run.lock p ≡ false → p < 9295 →
    symbol_of 9296 s i q f w acc
    ≡ kept_of (after_of s.run p (level_at s i q f w acc p) (silent s.run)) (record { both = both_at s i q f w; level = level_at s i q f w acc p }) (heads_of (silent s.run))
unfolding symbol_of step_of
symbol-quiet s i q f w acc p h ep el l =
    rw ep
    (if_no (ltb s.run.t 23) _ _ (le-ltb s.run.t 23 h)
    ∙ late_quiet 9296 s.run (both_at s i q f w) (get_or acc p 0) p ep el (ne_eqb p 9295 (λ z. omega arith)))

-- ---- the window's place and length
pub place-on : (t n : ℕ) → 23 ≤ t → place_of 9296 t + n < 9296 → place_of 9296 (t + n) ≡ place_of 9296 t + n
unfolding place_of
place-on t n h l = omega arith

pub window_length : (v : List ℤ) (i q : ℤ) → length v ≡ 48 → length (window_after v i q) ≡ 48
unfolding window_after
window_length v i q e = length-append (drop 2 v) (i ∷ q ∷ []) ∙ rw (length-drop 2 v, e)

-- ---- how far a run stays quiet
pub record Quiet (k : Lock) (p : ℕ) : Type 0 where
  pub from : p ≤ loud_place k p
  pub most : loud_place k p ≤ 9295
  pub silent : (j : ℕ) → p + j < loud_place k p → locked_at k (p + j) ≡ false
  pub told : (eqb (loud_place k p) 9295 || locked_at k (loud_place k p)) ≡ true

or_left : (a b : Bool) → a ≡ true → (a || b) ≡ true
or_left a b e = rw e

or_right : (a b : Bool) → b ≡ true → (a || b) ≡ true
or_right true b e = refl
or_right false b e = e

quiet_until : (k : Lock) (p : ℕ) → p < 9296 → lock_in_range k ≡ true → Quiet k p
unfolding loud_place is_locked offset_of locked_at lock_in_range
quiet_until (Search cand count) p l h =
    let e : loud_place (Search cand count) p ≡ 9295 = if_no false (offset_of (Search cand count)) 9295 refl in
    record { from = rw e (omega arith); most = rw e (omega arith); silent = λ j m. refl; told = rw e (or_left (eqb 9295 9295) false refl) }
quiet_until (Locked offset misses) p l h =
    let m = leb-true offset 9295 (and_both (leb offset 9295) (leb misses 7) h).0 in
    by_test (leb p offset)
    (λ t.
    let e : loud_place (Locked offset misses) p ≡ offset = if_yes (leb p offset) offset 9295 t in
    let u = leb-true p offset t in
    record {
      from = rw e u;
      most = rw e m;
      silent = λ j n. ne_eqb (p + j) offset (λ z. omega (arith, z, e, n));
      told = rw e (or_right (eqb offset 9295) (eqb offset offset) (eq-eqb offset offset refl));
    })
    (λ t.
    let e : loud_place (Locked offset misses) p ≡ 9295 = if_no (leb p offset) offset 9295 t in
    let u = leb-false p offset t in
    record {
      from = rw e (omega arith);
      most = rw e (omega arith);
      silent = λ j n. ne_eqb (p + j) offset (λ z. omega (arith, z, u));
      told = rw e (or_left (eqb 9295 9295) (eqb 9295 offset) refl);
    })

pub until_late : (r : Run) → 23 ≤ r.t → until_loud r ≡ loud_place r.lock (place_of 9296 r.t) - place_of 9296 r.t + 1
unfolding until_loud
until_late r h = if_no (ltb r.t 23) _ _ (le-ltb r.t 23 h)

pub until_early : (r : Run) → r.t < 23 → until_loud r ≡ 1
unfolding until_loud
until_early r h = if_yes (ltb r.t 23) _ _ (lt-ltb r.t 23 h)

place_below : (t : ℕ) → place_of 9296 t < 9296
unfolding place_of
place_below t = mod-lt (t - 23) {m = 9296} (omega arith)

-- ---- how far a run in range is ready
run_lock : (r : Run) → run_in_range r ≡ true → (lock_in_range r.lock ≡ true) × (r.tally.sum ≤ 2 ^ 45)
unfolding run_in_range tally_in_range
run_lock r e =
    let t = leb r.t (2 ^ 62) in
    let p1 = and_both (t && tally_in_range r.tally && lock_in_range r.lock && stage_in_range r.stage) (course_in_range r.course) e in
    let p2 = and_both (t && tally_in_range r.tally && lock_in_range r.lock) (stage_in_range r.stage) p1.0 in
    let p3 = and_both (t && tally_in_range r.tally) (lock_in_range r.lock) p2.0 in
    let p4 = and_both t (tally_in_range r.tally) p3.0 in
    let y = r.tally in
    let q = leb-true y.sum 34937091644336 (and_both (leb y.peak 3758292991 && leb y.place 9295) (leb y.sum 34937091644336) p4.1).1 in
    (p3.1, omega (arith, q))

pub ahead : (r : Run) → RunOk r → run_in_range r ≡ true → 2 ≤ reach_of r → (k : ℕ) → 1 ≤ k → k ≤ reach_of r → Ahead r k
unfolding reach_of
ahead r o e c k m l =
    let g = run_lock r e in
    let h : 23 ≤ r.t =
    by_test (ltb r.t 23)
    (λ t. let u = until_early r (ltb-true r.t 23 t) in absurd (omega (arith, u, c)))
    (λ t. ltb-false r.t 23 t)
    in
    let u = until_late r h in
    let p = place_of 9296 r.t in
    let z = quiet_until r.lock p (place_below r.t) g.0 in
    let a = z.from in
    let b = z.most in
    record {
      ready = o;
      some = m;
      late = h;
      sum = g.1;
      time = omega (arith, o.time, m, l);
      within = omega (arith, l, u, a, b);
      silent = λ j n. z.silent j (omega (arith, n, l, u, a));
    }

-- ---- the closed formula is the first loud symbol: those before it are quiet, and it is loud
-- the run j quiet symbols on, as far as its next symbol's place and the lock go
abbrev later : Run → ℕ → Run
later r j = record { base = r.base; t = r.t + j; tally = r.tally; lock = r.lock; stage = r.stage; course = r.course }

at_place : (r : Run) (j : ℕ) → 23 ≤ r.t → lock_in_range r.lock ≡ true → j < until_loud r →
    loud (later r j) ≡ (eqb (place_of 9296 r.t + j) 9295 || locked_at r.lock (place_of 9296 r.t + j))
unfolding loud
at_place r j h e l =
    let t = r.t in
    let z = quiet_until r.lock (place_of 9296 t) (place_below t) e in
    let u = until_late r h in
    let a = z.from in
    let b = z.most in
    let y : leb 23 (t + j) ≡ true = le-leb 23 (t + j) (omega arith) in
    rw (y, place-on t j h (omega (arith, l, u, a, b)))

pub quiet-before : (r : Run) (j : ℕ) → 23 ≤ r.t → lock_in_range r.lock ≡ true → suc j < until_loud r → loud (later r j) ≡ false
quiet-before r j h e l =
    let t = r.t in
    let z = quiet_until r.lock (place_of 9296 t) (place_below t) e in
    let u = until_late r h in
    let a = z.from in
    let b = z.most in
    let x = ne_eqb (place_of 9296 t + j) 9295 (λ i. omega (arith, i, l, u, a, b)) in
    at_place r j h e (omega arith) ∙ rw (x, z.silent j (omega (arith, l, u, a)))

pub loud_last : (r : Run) (j : ℕ) → 23 ≤ r.t → lock_in_range r.lock ≡ true → suc j ≡ until_loud r → loud (later r j) ≡ true
loud_last r j h e l =
    let t = r.t in
    let z = quiet_until r.lock (place_of 9296 t) (place_below t) e in
    let u = until_late r h in
    let a = z.from in
    let i : place_of 9296 t + j ≡ loud_place r.lock (place_of 9296 t) = omega (arith, l, u, a) in
    at_place r j h e (omega arith) ∙ rw i z.told
