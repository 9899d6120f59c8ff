-- What is coherent is in range: docs/RANGES.md, "Slot sync". Assumes nothing.
use Rattle.std.specs.Prelude.{Option, None, Some}
use Rattle.sync_heads.specs.declared.SlotNumber.{SlotNumber}
use Prim.Native.Nat.{◌*◌, ◌+◌, ◌-◌, ◌<◌, ◌^◌, ◌≤◌, suc, zero, ℕ}
use Rattle.sync.specs.declared.SlotSync.{SlotSync}
use Rattle.sync_corr.specs.Rows.{Bounded}
use Rattle.sync_corr.specs.declared.Corr.{Corr}
use Rattle.sync_heads.proofs.Laws.{course_range}
use Rattle.sync_heads.specs.Ranges.{both_in_range, corr_in_range, course_in_range, reading_in_range, stage_in_range}
use Rattle.sync_heads.specs.Ready.{SlotOk}
use Rattle.sync_heads.specs.declared.Course.{Course}
use Rattle.sync_heads.specs.declared.Reading.{Reading}
use Rattle.sync_heads.specs.declared.Stage.TheVariants.{Before, First, Known}
use Rattle.sync_heads.specs.declared.Stage.{Stage}
use Rattle.sync_lock.specs.Ranges.{lock_in_range, tally_in_range}
use Rattle.sync_lock.specs.declared.Lock.TheVariants.{Locked, Search}
use Rattle.sync_lock.specs.declared.Lock.{Lock}
use Rattle.sync_lock.specs.declared.Tally.{Tally}
use Rattle.sync_range.proofs.Tally.{running_most}
use Rattle.sync_range.specs.Coherent.{Bound, Coherent, CourseFits, LockFits, ReadingFits, Short, SlotFits, StageFits, TallyFits, corr_most, f_heads_of, most_of, running_of}
use Rattle.sync_step.specs.Ranges.{run_in_range}
use borrow.Author.Tests.{le-leb}
use lib.IntN.{nat_abs}
use mathlib.Core.Bool.{true}
use mathlib.Core.Path.{◌≡◌, refl}
use native.Mathlib.Nat.{mul-le-mul_right}
use native.Mathlib.Omega.{arith}

-- ---- the running period
most_most : (b : Bound) → Short b → most_of b ≤ 3758292991
unfolding most_of
most_most b l = omega arith

sum_most : (j m s : ℕ) → j ≤ 9296 → m ≤ 3758292991 → s ≤ j * m → s ≤ 34937091644336
sum_most j m s h k l = omega (arith, mul-le-mul_right m h)

tally_in_range_lem : (b : Bound) (t : ℕ) (y : Tally) → Short b → TallyFits b t y → tally_in_range y ≡ true
unfolding tally_in_range
tally_in_range_lem b t y l h =
    let m = most_most b l in
    rw (
      le-leb y.peak 3758292991 (omega (arith, h.peak)),
      le-leb y.place 9295 h.place,
      le-leb y.sum 34937091644336 (sum_most (running_of t) (most_of b) y.sum (running_most t) m h.sum),
    )

-- ---- lock
lock_in_range_lem : (t h : ℕ) (k : Lock) → LockFits t h k → lock_in_range k ≡ true
unfolding lock_in_range
lock_in_range_lem t h (Search cand count) g = rw (le-leb cand 9295 g.place, le-leb count 3 g.few)
lock_in_range_lem t h (Locked offset misses) g = rw (le-leb offset 9295 g.place, le-leb misses 7 g.few)

-- ---- stage
corr_in_range_lem : (b : Bound) (c : Corr) → Short b → Bounded (corr_most b) c → corr_in_range c ≡ true
unfolding corr_in_range
corr_in_range_lem b c l h = rw (le-leb (nat_abs c.re) 1572864 (omega (arith, h.re)), le-leb (nat_abs c.im) 1572864 (omega (arith, h.im)))

reading_in_range_lem : (b : Bound) (z : Reading) → Short b → ReadingFits b z → reading_in_range z ≡ true
unfolding reading_in_range both_in_range
reading_in_range_lem b z l h =
    rw (le-leb 37184 z.at h.low, le-leb z.at (2 ^ 62 - 24) h.high, corr_in_range_lem b z.both.f l h.f, corr_in_range_lem b z.both.s l h.s)

stage_in_range_lem : (b : Bound) (h : ℕ) (k : Stage) → Short b → StageFits b h k → stage_in_range k ≡ true
unfolding stage_in_range
stage_in_range_lem b h Before l g = refl
stage_in_range_lem b h (First z) l g = reading_in_range_lem b z l g.1
stage_in_range_lem b h (Known p) l g = corr_in_range_lem b p.last l g.last

-- ---- course
slot_ok : (h misses : ℕ) (k : Option SlotNumber) → SlotFits h misses k → SlotOk k × (misses < 2)
slot_ok h misses None g = (tt, omega arith)
slot_ok h misses (Some s) g = (omega (arith, g.within), omega (arith, g.few))

course_in_range_lem : (h m : ℕ) (c : Course) → CourseFits h m c → course_in_range c ≡ true
course_in_range_lem h m c g =
    let s = slot_ok h c.misses c.slot g.slot in
    course_range c (record { majority = g.clamped; slot = s.0; misses = s.1 }) g.last

-- ---- all
time_in_range : (base t : ℕ) → (0 < t → base + t ≤ 2 ^ 62) → t ≤ 2 ^ 62
time_in_range base zero h = omega arith
time_in_range base (suc t) h = omega (arith, h (omega arith))

pub coherent_in_range : (b : Bound) (s : SlotSync) → Short b → Coherent b s → run_in_range s.run ≡ true
unfolding run_in_range
coherent_in_range b s l c =
    let r = s.run in
    rw (
      le-leb r.t (2 ^ 62) (time_in_range r.base r.t c.time),
      tally_in_range_lem b r.t r.tally l c.tally,
      lock_in_range_lem r.t c.heads r.lock c.lock,
      stage_in_range_lem b c.heads r.stage l c.stage,
      course_in_range_lem c.heads (f_heads_of c.heads r.stage) r.course c.course,
    )
