-- A sync that starts is coherent, and so is what one symbol leaves. Assumes nothing.
use Rattle.std.specs.Prelude.{Option}
use Rattle.sync_heads.specs.Numbers.{last_head}
use Rattle.sync_heads.specs.declared.FrameHead.{FrameHead}
use Prim.Native.Nat.{◌*◌, ◌+◌, ◌-◌, ◌<◌, ◌^◌, ◌≤◌, suc, ℕ}
use Rattle.laws.proofs.Tests.{if_both, if_either}
use Rattle.sync.specs.Sync.{kept_window, started_sync}
use Rattle.sync.specs.declared.SlotSync.{SlotSync}
use Rattle.sync_corr.specs.Correlate.{size_of}
use Rattle.sync_corr.specs.declared.Both.{Both}
use Rattle.sync_heads.specs.Ranges.{record_in_range}
use Rattle.sync_heads.specs.declared.Taken.{Taken}
use Rattle.sync_lock.specs.Period.{counted_of, leak_of}
use Rattle.sync_lock.specs.Rule.{lock_after, locked_at, rule_of}
use Rattle.sync_lock.specs.declared.Lock.{Lock}
use Rattle.sync_range.proofs.Corr.{BothFits}
use Rattle.sync_range.proofs.Heads.{read_fits}
use Rattle.sync_range.proofs.Locks.{ended_lock, head_lock, head-place, later_lock}
use Rattle.sync_range.proofs.Tally.{counted_fits, early_tally_fits, level_fits, no_tally_fits}
use Rattle.sync_range.proofs.Window.{no_window_fits}
use Rattle.sync_range.specs.Coherent.{Bound, Coherent, CourseFits, LockFits, ReadingFits, StageFits, TallyFits, WindowFits, f_heads_of, most_of}
use Rattle.sync_step.specs.Events.{heads_of}
use Rattle.sync_step.specs.Step.{after_of, early_of, ended_of, kept_of, late_of, loses_of, lost_at_end, lost_of, place_of, reading_of, started_of, step_of, taken_of, with_lock}
use Rattle.sync_step.specs.declared.Events.{Events}
use Rattle.sync_step.specs.declared.LastCorr.{LastCorr}
use Rattle.sync_step.specs.declared.Run.{Run}
use borrow.Author.Tests.{eqb-true, le-leb, ltb-false, ltb-true}
use lib.Dec.{eqb, ltb}
use lib.IntN.{ℤ}
use mathlib.Core.Bool.{true}
use mathlib.Core.List.{List}
use mathlib.Core.Path.{◌≡◌, refl}
use native.Mathlib.Omega.{arith}
use Rattle.sync_step.specs.declared.Step.{Step}

-- ---- a start: "keeps the last frame record"
pub started_coherent : (b : Bound) (at : ℕ) (last : Option FrameHead) → record_in_range last ≡ true → Coherent b (started_sync at last)
unfolding started_sync started_of
started_coherent b at last e =
    record {
      heads = 0;
      window = no_window_fits b;
      time = λ h. omega arith;
      tally = no_tally_fits b;
      lock = record { place = omega arith; few = omega arith; whole = omega arith; none = refl };
      stage = refl;
      course = record { majority = omega arith; clamped = omega arith; slot = refl; last = e };
    }

-- ---- a reading
-- four periods and h more precede head h
reading_fits : (b : Bound) (h : ℕ) (r : Run) (x : Both) → BothFits b x → 23 ≤ r.t → r.base + r.t < 2 ^ 62 → (4 + h) * 9296 ≤ r.t - 23 →
    ReadingFits b (reading_of r x)
unfolding reading_of
reading_fits b h r x g l u k = record { low = omega arith; high = omega arith; f = g.f; s = g.s }

record_fits : (h : ℕ) (r : Run) (x : Both) → 23 ≤ r.t → r.base + r.t < 2 ^ 62 → (4 + h) * 9296 ≤ r.t - 23 → 5 ≤ h → (f : ℕ) →
    record_in_range (last_head (reading_of r x).at f) ≡ true
unfolding reading_of record_in_range
record_fits h r x l u k j f = rw (le-leb 83664 (r.base + r.t - 23) (omega arith), le-leb (r.base + r.t - 23) (2 ^ 62 - 24) (omega arith))

-- what a symbol's reading, if it is one, leaves, with the lock before the period's end
record Takes (b : Bound) (t : ℕ) (k : Lock) (y : Taken) : Type 0 where
  heads : ℕ
  lock : LockFits (t + 1) heads k
  stage : StageFits b heads y.stage
  course : CourseFits heads (f_heads_of heads y.stage) y.course

taken_fits : (b : Bound) (s : SlotSync) (x : Both) → Coherent b s → BothFits b x → 23 ≤ s.run.t → s.run.base + s.run.t < 2 ^ 62 →
    Takes b s.run.t s.run.lock (taken_of 9296 s.run (place_of 9296 s.run.t) x)
unfolding taken_of
taken_fits b s x c g l u =
    let r = s.run in
    let h = c.heads in
    if_either (Takes b r.t r.lock) (locked_at r.lock (place_of 9296 r.t)) _ _
    (λ e.
    let k = head-place r.t h r.lock c.lock e in
    let y = read_fits 9296 b h r.stage r.course (reading_of r x) c.stage c.course (reading_fits b h r x g l u k) (record_fits h r x l u k) in
    record { heads = suc h; lock = head_lock r.t h r.lock c.lock e; stage = y.0; course = y.1 })
    (λ e. record { heads = h; lock = later_lock r.t h r.lock c.lock; stage = c.stage; course = c.course })

-- ---- what a step leaves with window w is coherent
abbrev Good : Bound → List ℤ → Step → Type 0
Good b w x = Coherent b (record { win = kept_window x.stores w; run = x.run })

lost_good : (b : Bound) (at : ℕ) (w : List ℤ) (last : Option FrameHead) (es : Events) → record_in_range last ≡ true → Good b w (lost_of at last es)
unfolding lost_of kept_window started_sync
lost_good b at w last es e = started_coherent b at last e

lost_end_good : (b : Bound) (at : ℕ) (w : List ℤ) (last : Option FrameHead) (es : Events) → record_in_range last ≡ true → Good b w (lost_at_end at last es)
unfolding lost_at_end lost_of kept_window started_sync
lost_end_good b at w last es e = started_coherent b at last e

-- the run after a symbol, with a lock that fits
after-good : (b : Bound) (a : ℕ) (w : List ℤ) (r : Run) (y : Taken) (k : Lock) (v : Takes b r.t r.lock y) → WindowFits b w →
    TallyFits b r.t r.tally → a ≤ most_of b →
    23 ≤ r.t → r.base + r.t < 2 ^ 62 → LockFits (r.t + 1) v.heads k → Coherent b (record { win = w; run = with_lock (after_of r (place_of 9296 r.t) a y) k })
unfolding with_lock after_of
after-good b a w r y k v z g l u i f =
    record {
      heads = v.heads;
      window = z;
      time = λ h. omega arith;
      tally = counted_fits b r.t a r.tally u l g;
      lock = f;
      stage = v.stage;
      course = v.course;
    }

kept-good : (b : Bound) (a : ℕ) (w : List ℤ) (r : Run) (y : Taken) (last : LastCorr) (es : Events) (v : Takes b r.t r.lock y) →
    WindowFits b w → TallyFits b r.t r.tally →
    a ≤ most_of b → 23 ≤ r.t → r.base + r.t < 2 ^ 62 → Good b w (kept_of (after_of r (place_of 9296 r.t) a y) last es)
unfolding kept_of kept_window with_lock after_of
kept-good b a w r y last es v z g l u i = after-good b a w r y r.lock v z g l u i v.lock

ended_good : (b : Bound) (h a : ℕ) (w : List ℤ) (r : Run) (y : Taken) (last : LastCorr) (es : Events) (v : Takes b r.t r.lock y) →
    WindowFits b w →
    TallyFits b r.t r.tally → a ≤ most_of b → 23 ≤ r.t → r.base + r.t < 2 ^ 62 → LockFits r.t h r.lock → place_of 9296 r.t ≡ 9295 →
    Good b w (ended_of 9296 (after_of r (place_of 9296 r.t) a y) last es)
unfolding ended_of after_of kept_of kept_window
ended_good b h a w r y last es v z g l u i f e =
    let q = counted_of r.tally (place_of 9296 r.t) a in
    if_either (Good b w) (loses_of (rule_of 9296 r.lock q)) _ _
    (λ t. lost_good b (r.base + (r.t + 1)) w y.course.last es v.course.last)
    (λ t. after-good b a w r y (lock_after (rule_of 9296 r.lock q)) v z g l u i
    (ended_lock 9296 r.t h v.heads r.lock q u e (counted_fits b r.t a r.tally u l g).place f v.lock t))

late_good : (b : Bound) (a : ℕ) (w : List ℤ) (s : SlotSync) (x : Both) → Coherent b s → WindowFits b w → BothFits b x → a < 2 ^ 32 → 23 ≤ s.run.t →
    s.run.base + s.run.t < 2 ^ 62 → Good b w (late_of 9296 s.run x a)
unfolding late_of
late_good b a w s x c z g l u i =
    let r = s.run in
    let p = place_of 9296 r.t in
    let y = taken_of 9296 r p x in
    let v = taken_fits b s x c g u i in
    let k = level_fits b a (size_of x) l g.size in
    let o = r.base + r.t + 1 in
    if_both (Good b w) y.lost _ _
    (if_both (Good b w) (eqb p 9295) _ _ (lost_end_good b o w y.course.last (heads_of y) v.course.last) (lost_good b o w y.course.last (heads_of y) v.course.last))
    (if_either (Good b w) (eqb p 9295) _ _
    (λ e. ended_good b c.heads (leak_of a (size_of x)) w r y _ (heads_of y) v z c.tally k u i c.lock (eqb-true p 9295 e))
    (λ e. kept-good b (leak_of a (size_of x)) w r y _ (heads_of y) v z c.tally k u i))

-- one of the first 23 symbols
early_good : (b : Bound) (w : List ℤ) (s : SlotSync) → Coherent b s → WindowFits b w → s.run.t < 23 → s.run.base + s.run.t < 2 ^ 62 →
    Good b w (early_of s.run)
unfolding early_of kept_window
early_good b w s c z l u =
    record {
      heads = c.heads;
      window = z;
      time = λ h. omega arith;
      tally = early_tally_fits b s.run.t s.run.tally l c.tally;
      lock = later_lock s.run.t c.heads s.run.lock c.lock;
      stage = c.stage;
      course = c.course;
    }

pub step_good : (b : Bound) (a : ℕ) (w : List ℤ) (s : SlotSync) (x : Both) → Coherent b s → WindowFits b w → BothFits b x → a < 2 ^ 32 →
    s.run.base + s.run.t < 2 ^ 62 →
    Coherent b (record { win = kept_window (step_of 9296 s.run x a).stores w; run = (step_of 9296 s.run x a).run })
unfolding step_of
step_good b a w s x c z g l u =
    if_either (Good b w) (ltb s.run.t 23) _ _
    (λ e. early_good b w s c z (ltb-true s.run.t 23 e) u)
    (λ e. late_good b a w s x c z g l (ltb-false s.run.t 23 e) u)
