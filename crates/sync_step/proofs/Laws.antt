-- What is known of a run after a symbol, and of a run in range. Assumes nothing.
use Prim.Native.Nat.{◌+◌, ◌<◌, ◌^◌, ◌≤◌, ℕ}
use Rattle.laws.proofs.Tests.{and_both, if_both}
use Rattle.sync_heads.proofs.Laws.{course_ready, stage_ready}
use Rattle.sync_heads.specs.Ranges.{course_in_range, stage_in_range}
use Rattle.sync_heads.specs.declared.Taken.{Taken}
use Rattle.sync_lock.specs.Period.{added_of, counted_of, no_tally}
use Rattle.sync_lock.specs.Ranges.{Lockable, lock_in_range, tally_in_range}
use Rattle.sync_lock.specs.declared.Lock.TheVariants.{Locked, Search}
use Rattle.sync_lock.specs.declared.Lock.{Lock}
use Rattle.sync_lock.specs.declared.Tally.{Tally}
use Rattle.sync_step.specs.Ranges.{RunOk, run_in_range}
use Rattle.sync_step.specs.Step.{after_of}
use Rattle.sync_step.specs.declared.Run.{Run}
use borrow.Author.Tests.{leb-false, leb-true}
use lib.Dec.{eqb, leb, ltb}
use mathlib.Core.Bool.{◌&&◌, false, true}
use mathlib.Core.Path.{◌≡◌, refl}
use native.Mathlib.Omega.{arith}

pub added_sum : (t : Tally) (p a : ℕ) → (added_of t p a).sum ≡ t.sum + a
unfolding added_of
added_sum t p a =
    if_both (λ (y : Tally). y.sum ≡ t.sum + a) (ltb t.peak a)
    (record { peak = a; place = p; sum = t.sum + a }) (record { peak = t.peak; place = t.place; sum = t.sum + a }) refl refl

pub counted_sum : (t : Tally) (p a : ℕ) → (counted_of t p a).sum ≤ t.sum + a
unfolding counted_of no_tally
counted_sum t p a =
    if_both (λ (y : Tally). y.sum ≤ t.sum + a) (eqb p 0) (added_of no_tally p a) (added_of t p a)
    (omega (arith, added_sum no_tally p a)) (omega (arith, added_sum t p a))

-- enough for the end of a period
pub after_ready : (r : Run) (p a : ℕ) (k : Taken) → RunOk r → a < 2 ^ 32 →
    (Lockable (after_of r p a k).lock) × ((after_of r p a k).tally.sum ≤ 2 ^ 62) × ((after_of r p a k).base ≤ 2 ^ 62) × ((after_of r p a k).t ≤ 2 ^ 62)
unfolding after_of
after_ready r p a k o h =
    let s = counted_sum r.tally p a in
    let m = o.sum in
    let t = o.time in
    (o.lock, omega arith, omega arith, omega arith)

tally_sum : (t : Tally) → tally_in_range t ≡ true → t.sum ≤ 2 ^ 50
unfolding tally_in_range
tally_sum t e =
    let q = leb-true t.sum 34937091644336 (and_both (leb t.peak 3758292991 && leb t.place 9295) (leb t.sum 34937091644336) e).1 in
    omega arith

lock_ready : (k : Lock) → lock_in_range k ≡ true → Lockable k
unfolding lock_in_range
lock_ready (Search cand count) e = let q = leb-true count 3 (and_both (leb cand 9295) (leb count 3) e).1 in omega arith
lock_ready (Locked offset misses) e = let q = leb-true misses 7 (and_both (leb offset 9295) (leb misses 7) e).1 in omega arith

-- a state in range, whose next symbol is accepted, is ready for it
pub run_ready : (r : Run) → run_in_range r ≡ true → leb (2 ^ 62) (r.base + r.t) ≡ false → RunOk r
unfolding run_in_range
run_ready r e h =
    let t = leb r.t (2 ^ 62) in
    let p1 = and_both (t && tally_in_range r.tally && lock_in_range r.lock && stage_in_range r.stage) (course_in_range r.course) e in
    let p2 = and_both (t && tally_in_range r.tally && lock_in_range r.lock) (stage_in_range r.stage) p1.0 in
    let p3 = and_both (t && tally_in_range r.tally) (lock_in_range r.lock) p2.0 in
    let p4 = and_both t (tally_in_range r.tally) p3.0 in
    record {
      time = leb-false (2 ^ 62) (r.base + r.t) h;
      sum = tally_sum r.tally p4.1;
      lock = lock_ready r.lock p3.1;
      stage = stage_ready r.stage p2.1;
      course = course_ready r.course p1.1;
    }
