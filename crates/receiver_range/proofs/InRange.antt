-- What is coherent is in range: docs/RANGES.md, "Receiver". Assumes nothing.
use Rattle.std.specs.Prelude.{Option, None, Some}
use Rattle.carrier.specs.declared.Steps.{Steps}
use Prim.Native.Nat.{ℕ, suc, ◌+◌, ◌*◌, ◌-◌, ◌%◌, ◌^◌, ◌≤◌, ◌<◌}
use mathlib.Core.Bool.{Bool, true, ◌&&◌, ◌||◌}
use mathlib.Core.List.{List, [], ◌∷◌}
use mathlib.Core.Logic.{◌⊎◌, inl, inr}
use mathlib.Core.Path.{◌≡◌, refl}
use native.Mathlib.Nat.{mul-le-mul_right}
use native.Mathlib.Omega.{arith}
use borrow.Author.Tests.{le-leb, eq-eqb}
use lib.Dec.{eqb, leb}
use lib.Ieee.Bits.{is_true}
use lib.IntN.{ℤ, pos, nat_abs}
use lib.ListN.{get_or, length}
use lib.Signed.{le_z}
use Rattle.laws.specs.Choice.{when◌then◌else◌, minus}
use Rattle.laws.proofs.Linear.{le_ud, neg_ud, ud_le}
use Rattle.laws.proofs.Tests.{and_both, if_either}
use Rattle.carrier.specs.declared.Nco.{Nco}
use Rattle.carrier.specs.Coherent.{TrailFits}
use Rattle.sync_corr.specs.Correlate.{at}
use Rattle.sync_corr.specs.Rows.{Bounded}
use Rattle.sync_corr.specs.declared.Corr.{Corr}
use Rattle.sync_lock.specs.declared.Tally.{Tally}
use Rattle.sync_lock.specs.Ranges.{tally_in_range, lock_in_range}
use Rattle.sync_heads.specs.declared.Reading.{Reading}
use Rattle.sync_heads.specs.declared.Stage.{Stage}
use Rattle.sync_heads.specs.declared.Stage.TheVariants.{Before, First, Known}
use Rattle.sync_heads.specs.declared.Head.{Head}
use Rattle.sync_heads.specs.Ranges.{course_in_range, stage_in_range}
use Rattle.sync_step.specs.declared.Run.{Run}
use Rattle.sync_step.specs.Ranges.{run_in_range}
use Rattle.sync.specs.declared.SlotSync.{SlotSync}
use Rattle.sync_range.specs.Coherent.{rotated, corr_most, most_of, running_of, WindowFits, TallyFits, ReadingFits, StageFits, Coherent as CoherentSync}
use Rattle.sync_range.proofs.Tally.{running_most}
use Rattle.sync_range.proofs.Within.{coherent_in_range as sync-in-range}
use Rattle.sync_range.proofs.Theorems.{rotated_short, rotated-figures}
use Rattle.phase.specs.declared.Held.{Held}
use Rattle.sums.specs.declared.Sums.{Sums}
use Rattle.eq_train.specs.Sound.{SumsSound}
use Rattle.eq_train.proofs.Theorems.{sound_upper}
use Rattle.eq.specs.declared.Equaliser.{Equaliser}
use Rattle.eq_range.specs.Coherent.{Coherent as CoherentEq}
use Rattle.frame_line.specs.declared.Meta.{Meta}
use Rattle.frame.specs.declared.Back.{Back}
use Rattle.receiver_slot.specs.declared.Points.{Points}
use Rattle.receiver.specs.declared.Receiver.{Receiver}
use Rattle.receiver_bounds.specs.Bounds.{within, all_within, even, steps_within, trail_within, nco_within, corr_within, first_within, stage_within, tally_within, run_within, head_within, held_within, phase_within, sums_within, eq_within, meta_within, metas_within, last_within, back_within, points_within}
use Rattle.receiver.specs.Ranges.{front_within, receiver_in_range}
use Rattle.receiver_range.specs.Coherent.{CountFits, HeadFits, HeldFits, NcoFits, TrailEven, PhaseFits, Untouched, Waits, Adjoins, BackFits, right_most, RightFits, PointsFit, CoherentReceiver}

-- ---- tests
within_is : (a b v : ℕ) → a ≤ v → v ≤ b → within a b v ≡ true
unfolding within
within_is a b v h k = rw (le-leb a v h, le-leb v b k)

all-within : (b : ℕ) (l : List ℤ) → ((k : ℕ) → k < length l → nat_abs (get_or l k (pos 0)) ≤ b) → all_within b l ≡ true
unfolding all_within
all-within b [] h = refl
all-within b (v ∷ vs) h = rw (le-leb (nat_abs v) b (h 0 (omega arith)), all-within b vs (λ k l. h (suc k) (omega arith)))

-- ---- slot sync
window_within : (w : List ℤ) → WindowFits rotated w → all_within 4096 w ≡ true
unfolding at
window_within w h = all-within 4096 w (λ k l. h.small k (omega (arith, h.pairs)))

sum_most : (j m s : ℕ) → j ≤ 9296 → s ≤ j * m → s ≤ 9296 * m
sum_most j m s h l = omega (arith, mul-le-mul_right m h)

tally_within_lem : (t : ℕ) (y : Tally) → TallyFits rotated t y → tally_within y ≡ true
unfolding tally_within
tally_within_lem t y h =
    rw (
      le-leb y.peak 3758114816 (omega (arith, h.peak, rotated-figures.peak_is)),
      le-leb y.place 9295 h.place,
      le-leb y.sum 34935435329536
          (omega (arith, sum_most (running_of t) (most_of rotated) y.sum (running_most t) h.sum, rotated-figures.sum_is)),
    )

corr-within : (c : Corr) → Bounded (corr_most rotated) c → corr_within c ≡ true
unfolding corr_within
corr-within c h = rw (le-leb (nat_abs c.re) 98328 h.re, le-leb (nat_abs c.im) 98328 h.im)

first-within : (z : Reading) → ReadingFits rotated z → first_within z ≡ true
unfolding first_within
first-within z h =
    rw (within_is 37184 (2 ^ 62 - 24) z.at h.low h.high, corr-within z.both.f h.f, corr-within z.both.s h.s)

stage_within_lem : (h : ℕ) (k : Stage) → StageFits rotated h k → stage_within k ≡ true
unfolding stage_within
stage_within_lem h Before g = refl
stage_within_lem h (First z) g = first-within z g.1
stage_within_lem h (Known p) g = corr-within p.last g.last

-- the rest as crate sync_range has it
run-within : (s : SlotSync) → CoherentSync rotated s → run_within s.run ≡ true
unfolding run_within run_in_range
run-within s c =
    let r = s.run in
    let a = leb r.t (2 ^ 62) in
    let b = tally_in_range r.tally in
    let d = lock_in_range r.lock in
    let e = stage_in_range r.stage in
    let k4 = and_both (a && b && d && e) (course_in_range r.course) (sync-in-range rotated s rotated_short c) in
    let k3 = and_both (a && b && d) e k4.0 in
    let k2 = and_both (a && b) d k3.0 in
    let k1 = and_both a b k2.0 in
    rw (k1.0, tally_within_lem r.t r.tally c.tally, k2.1, stage_within_lem c.heads r.stage c.stage, k4.1)

-- ---- slot phase
-- where a held head stands
pub held_low : (r : Run) (x : Held) → HeldFits r x → 46480 ≤ x.head.at
held_low r x h = omega (arith, h.place, mul-le-mul_right 9296 h.enough)

pub held_high : (r : Run) (x : Held) → (0 < r.t → r.base + r.t ≤ 2 ^ 62) → HeldFits r x → x.head.at + 24 ≤ 2 ^ 62
held_high r x time h =
    let l : 0 < r.t = omega (arith, h.counted, h.place, h.enough) in
    omega (arith, h.counted, h.some, time l)

even_is : (a : ℕ) → a % 2 ≡ 0 → even a ≡ true
unfolding even
even_is a e = eq-eqb (a % 2) 0 e

head-within : (h : Head) → 46480 ≤ h.at → h.at + 24 ≤ 2 ^ 62 → HeadFits h → head_within h ≡ true
unfolding head_within
head-within h low high f =
    rw (
      within_is 46480 (2 ^ 62 - 24) h.at low (omega (arith, high)),
      corr-within h.corr f.corr,
      is_true (le_z (pos 0) h.amp) f.low.le,
      is_true (le_z h.amp (pos 179130)) f.high.le,
      f.slot,
      eq-eqb h.nco_phase 0 f.none,
      even_is h.theta f.even,
    )

phase_within_lem : (r : Run) (s : Option Held) → (0 < r.t → r.base + r.t ≤ 2 ^ 62) → PhaseFits r s → phase_within s ≡ true
unfolding phase_within held_within
phase_within_lem r None time h = refl
phase_within_lem r (Some x) time h =
    rw (head-within x.head (held_low r x h) (held_high r x time h) h.head, within_is 1 9296 x.count (omega (arith, h.some)) (omega (arith, h.few)))

-- ---- carrier
trail_within_lem : (t : Option Steps) → TrailFits t → TrailEven t → trail_within t ≡ true
unfolding trail_within steps_within
trail_within_lem None f e = refl
trail_within_lem (Some s) f e =
    rw (
      le-leb s.steps 59 f.few,
      is_true (le_z (minus 126701535232) s.sum) (le_ud (minus 126701535232) s.sum (omega (arith, f.few, ud_le f.low, neg_ud (pos (s.steps * 2147483648))))).le,
      is_true (le_z s.sum (pos 126701535114)) (le_ud s.sum (pos 126701535114) (omega (arith, f.few, ud_le e.high))).le,
      even_is s.last_ss e.last,
    )

nco_within_lem : (n : Nco) → NcoFits n → nco_within n ≡ true
unfolding nco_within
nco_within_lem n c = trail_within_lem n.trail c.coherent.trail c.even

-- ---- equaliser
right_most_lem : (n m : ℕ) → n ≤ 4194288 → m ≤ n * right_most → m ≤ 199010845458432
right_most_lem n m h l = omega arith

-- of the numbers of trainings that slots come to, 4,194,288 is the greatest
few_trained : (n m : ℕ) → n ≤ 4194304 → (n ≡ 24 * m) ⊎ (n ≡ 24 * m + 19) → n ≤ 4194288
few_trained n m h (inl e) = omega arith
few_trained n m h (inr e) = omega arith

sums_within_lem : (s : Sums) → SumsSound s → RightFits s → s.count ≤ 4194288 → sums_within s ≡ true
unfolding sums_within
sums_within_lem s m r few =
    rw (le-leb s.count 4194288 few, sound_upper 4194288 s m few)
    (all-within 199010845458432 s.p (λ j l. right_most_lem s.count (nat_abs (get_or s.p j (pos 0))) few (r.small j (omega (arith, r.long)))))

eq_within_lem : (e : Equaliser) → (e.filled ≡ 0) ⊎ (e.filled ≡ 11) → CoherentEq e → (e.opened ≡ true → RightFits e.sums) →
    (e.opened ≡ true → e.sums.count ≤ 4194288) → eq_within e ≡ true
unfolding eq_within
eq_within_lem e f c r g =
    let t : (when e.opened then sums_within e.sums else true) ≡ true = if_either (λ (b : Bool). b ≡ true) e.opened _ _ (λ o. sums_within_lem e.sums (c.open_sums o) (r o) (g o)) (λ o. refl) in
    rw (fill e.filled f, t)
  where
    fill : (n : ℕ) → (n ≡ 0) ⊎ (n ≡ 11) → (eqb n 0 || eqb n 11) ≡ true
    fill n (inl h) = rw h
    fill n (inr h) = rw h

-- ---- alignment
meta_within_lem : (k a : ℕ) (m : Meta) → 55776 ≤ a → a + 24 ≤ 2 ^ 62 → Waits k a m → meta_within k m ≡ true
unfolding meta_within
meta_within_lem k a m low high w =
    rw (eq-eqb m.j (9291 + k) w.j, within_is (55771 + k) (2 ^ 62 - 29 + k) m.at (omega (arith, w.at_is)) (omega (arith, w.at_is)), w.slot)

untouched_within : (b : Back) → Untouched b → CoherentEq b.eq → (b.eq.opened ≡ true → RightFits b.eq.sums) →
    (b.eq.opened ≡ true → b.eq.sums.count ≤ 4194288) → back_within b ≡ true
unfolding back_within metas_within last_within
untouched_within b u c r g = rw (eq_within_lem b.eq (inl u.empty) c r g, u.none, u.last)

adjoins_within : (a : ℕ) (b : Back) → a + 24 ≤ 2 ^ 62 → Adjoins a b → CoherentEq b.eq → (b.eq.opened ≡ true → RightFits b.eq.sums) →
    (b.eq.opened ≡ true → b.eq.sums.count ≤ 4194288) → back_within b ≡ true
unfolding back_within metas_within last_within
adjoins_within a b high j c r g =
    rw (
      eq_within_lem b.eq (inr j.full) c r g,
      j.five,
      meta_within_lem 0 a b.metas.first j.low high j.first,
      meta_within_lem 1 a b.metas.second j.low high j.second,
      meta_within_lem 2 a b.metas.third j.low high j.third,
      meta_within_lem 3 a b.metas.fourth j.low high j.fourth,
      meta_within_lem 4 a b.metas.fifth j.low high j.fifth,
      j.last,
    )
    (within_is 55775 (2 ^ 62 - 25) j.before (omega (arith, j.next, j.low)) (omega (arith, j.next, high)))

back_within_lem : (r : Run) (s : Option Held) (b : Back) → (0 < r.t → r.base + r.t ≤ 2 ^ 62) → PhaseFits r s → BackFits s b → CoherentEq b.eq →
    (b.eq.opened ≡ true → RightFits b.eq.sums) → (b.eq.opened ≡ true → CountFits b) → back_within b ≡ true
back_within_lem r s b time h f c g k = go s h f
  where
    few : b.eq.opened ≡ true → b.eq.sums.count ≤ 4194288
    few o = few_trained b.eq.sums.count (k o).slots (c.open_sums o).count (k o).count

    go : (s : Option Held) → PhaseFits r s → BackFits s b → back_within b ≡ true
    go None h f = untouched_within b f c g few
    go (Some x) h (inl f) = untouched_within b f c g few
    go (Some x) h (inr f) = adjoins_within x.head.at b (held_high r x time h) f c g few

-- ---- all
points-within : (p : Points) → PointsFit p → points_within p ≡ true
unfolding points_within
points-within p h = rw (le-leb p.bits 5 h.bits, le-leb p.k (2 ^ 24) h.k)

pub in_range : (r : Receiver) → CoherentReceiver r → receiver_in_range r ≡ true
unfolding receiver_in_range front_within
in_range r c =
    let s = r.front.sync in
    rw (
      nco_within_lem r.front.nco c.nco,
      window_within s.win c.sync.window,
      run-within s c.sync,
      phase_within_lem s.run r.front.phase c.sync.time c.phase,
      back_within_lem s.run r.front.phase r.back c.sync.time c.phase c.back c.eq c.right c.count,
      points-within r.points c.points,
    )
