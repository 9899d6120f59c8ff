-- Parts whose numbers are in range are ready for a symbol, and for the slot that it may complete. Assumes nothing.
use Rattle.std.specs.Prelude.{Option, None, Some}
use Rattle.carrier.specs.declared.Steps.{Steps}
use Rattle.phase.specs.declared.Held.{Held}
use Prim.Native.Nat.{ℕ, zero, suc, ◌+◌, ◌-◌, ◌^◌, ◌≤◌}
use mathlib.Core.Bool.{Bool, true, false, ◌&&◌, ◌||◌}
use mathlib.Core.List.{List, [], ◌∷◌}
use mathlib.Core.Logic.{◌⊎◌, inl, inr}
use mathlib.Core.Path.{◌≡◌, refl, sym, ◌∙◌}
use native.Mathlib.Omega.{arith}
use borrow.Author.Tests.{eqb-true, le-leb, leb-true, lt-ltb}
use lib.Dec.{eqb, leb}
use lib.IntN.{ℤ, pos, negsuc, nat_abs}
use lib.Signed.{le_z}
use Rattle.laws.specs.Choice.{when◌then◌else◌, if_yes, minus}
use Rattle.laws.proofs.Tests.{and_both, by_test, never}
use Rattle.sync_corr.specs.declared.Corr.{Corr}
use Rattle.sync_lock.specs.declared.Tally.{Tally}
use Rattle.sync_lock.specs.Ranges.{lock_in_range, tally_in_range}
use Rattle.sync_heads.specs.declared.Head.{Head}
use Rattle.sync_heads.specs.declared.Stage.{Stage}
use Rattle.sync_heads.specs.declared.Stage.TheVariants.{Before, First, Known}
use Rattle.sync_heads.specs.Ranges.{both_in_range, corr_in_range, course_in_range, reading_in_range, slot_in_range, stage_in_range}
use Rattle.sync_step.specs.declared.Run.{Run}
use Rattle.sync_step.specs.Ranges.{run_in_range}
use Rattle.carrier.specs.declared.Nco.{Nco}
use Rattle.carrier.specs.Ranges.{nco_in_range, steps_in_range, trail_in_range}
use Rattle.phase.specs.Ranges.{HeadOk, PhaseOk}
use Rattle.sums.specs.declared.Sums.{Sums}
use Rattle.eq_train.specs.Ranges.{upper_in_range}
use Rattle.eq_train.specs.Train.{nth}
use Rattle.eq_train.proofs.Laws.{upper_sizes}
use Rattle.eq.specs.declared.Equaliser.{Equaliser}
use Rattle.frame_line.specs.declared.Meta.{Meta}
use Rattle.frame_line.specs.declared.Metas.{Metas}
use Rattle.frame_line.specs.Ranges.{last_in_range}
use Rattle.frame.specs.declared.Back.{Back}
use Rattle.receiver_slot.specs.declared.Points.{Points}
use Rattle.receiver_slot.specs.Aligned.{Between, none, five}
use Rattle.receiver_slot.specs.Ranges.{BackOk, PointsOk, SumsFit}
use Rattle.receiver_bounds.specs.Bounds.{all_within, back_within, corr_within, eq_within, even, first_within, head_within, held_within, last_within, meta_within, metas_within, nco_within, phase_within, points_within, run_within, stage_within, steps_within, sums_within, tally_within, trail_within, within}

and_yes : (a b : Bool) → a ≡ true → b ≡ true → (a && b) ≡ true
and_yes a b p q = rw (p, q)

-- ---- the carrier: the ranges of a receiver are those of a carrier by itself, and less
sum_wide : (z : ℤ) → le_z z (pos 126701535114) ≡ true → le_z z (pos 126701535173) ≡ true
sum_wide (pos n) e = le-leb n 126701535173 (omega (arith, leb-true n 126701535114 e))
sum_wide (negsuc n) e = refl

trail_wide : (t : Option Steps) → trail_within t ≡ true → trail_in_range t ≡ true
unfolding trail_within steps_within trail_in_range steps_in_range
trail_wide None e = refl
trail_wide (Some s) e =
    let a = and_both (leb s.steps 59 && le_z (minus 126701535232) s.sum && le_z s.sum (pos 126701535114)) (even s.last_ss) e in
    let b = and_both (leb s.steps 59 && le_z (minus 126701535232) s.sum) (le_z s.sum (pos 126701535114)) a.0 in
    and_yes _ _ b.0 (sum_wide s.sum b.1)

pub nco_wide : (n : Nco) → nco_within n ≡ true → nco_in_range n ≡ true
unfolding nco_within nco_in_range
nco_wide n e = trail_wide n.trail e

-- ---- the slot sync: the ranges of a receiver are those of a sync by itself, and less
corr-wide : (c : Corr) → corr_within c ≡ true → corr_in_range c ≡ true
unfolding corr_within corr_in_range
corr-wide c e =
    let h = and_both (leb (nat_abs c.re) 98328) (leb (nat_abs c.im) 98328) e in
    and_yes _ _ (le-leb (nat_abs c.re) 1572864 (omega (arith, leb-true (nat_abs c.re) 98328 h.0)))
    (le-leb (nat_abs c.im) 1572864 (omega (arith, leb-true (nat_abs c.im) 98328 h.1)))

stage_wide : (k : Stage) → stage_within k ≡ true → stage_in_range k ≡ true
unfolding stage_within stage_in_range first_within reading_in_range both_in_range within
stage_wide Before e = refl
stage_wide (First z) e =
    let w = leb 37184 z.at && leb z.at (2 ^ 62 - 24) in
    let h = and_both (w && corr_within z.both.f) (corr_within z.both.s) e in
    let k = and_both w (corr_within z.both.f) h.0 in
    and_yes _ _ k.0 (and_yes _ _ (corr-wide z.both.f k.1) (corr-wide z.both.s h.1))
stage_wide (Known p) e = corr-wide p.last e

tally_wide : (t : Tally) → tally_within t ≡ true → tally_in_range t ≡ true
unfolding tally_within tally_in_range
tally_wide t e =
    let h = and_both (leb t.peak 3758114816 && leb t.place 9295) (leb t.sum 34935435329536) e in
    let k = and_both (leb t.peak 3758114816) (leb t.place 9295) h.0 in
    and_yes _ _ (and_yes _ _ (le-leb t.peak 3758292991 (omega (arith, leb-true t.peak 3758114816 k.0))) k.1)
    (le-leb t.sum 34937091644336 (omega (arith, leb-true t.sum 34935435329536 h.1)))

pub run-wide : (r : Run) → run_within r ≡ true → run_in_range r ≡ true
unfolding run_within run_in_range
run-wide r e =
    let t = leb r.t (2 ^ 62) in
    let a = and_both (t && tally_within r.tally && lock_in_range r.lock && stage_within r.stage) (course_in_range r.course) e in
    let b = and_both (t && tally_within r.tally && lock_in_range r.lock) (stage_within r.stage) a.0 in
    let c = and_both (t && tally_within r.tally) (lock_in_range r.lock) b.0 in
    let d = and_both t (tally_within r.tally) c.0 in
    and_yes _ _ (and_yes _ _ (and_yes _ _ (and_yes _ _ d.0 (tally_wide r.tally d.1)) c.1) (stage_wide r.stage b.1)) a.1

-- ---- the slot phase
amp_small : (z : ℤ) → le_z (pos 0) z ≡ true → le_z z (pos 179130) ≡ true → nat_abs z ≤ 2 ^ 60
amp_small (pos n) a b = omega (arith, leb-true n 179130 b)
amp_small (negsuc n) a b = absurd (never (sym a))

head_ready : (h : Head) → head_within h ≡ true → HeadOk h
unfolding head_within
head_ready h e =
    let w = within 46480 (2 ^ 62 - 24) h.at && corr_within h.corr in
    let g = and_both (w && le_z (pos 0) h.amp && le_z h.amp (pos 179130) && slot_in_range h.slot && eqb h.nco_phase 0) (even h.theta) e in
    let a = and_both (w && le_z (pos 0) h.amp && le_z h.amp (pos 179130) && slot_in_range h.slot) (eqb h.nco_phase 0) g.0 in
    let b = and_both (w && le_z (pos 0) h.amp && le_z h.amp (pos 179130)) (slot_in_range h.slot) a.0 in
    let c = and_both (w && le_z (pos 0) h.amp) (le_z h.amp (pos 179130)) b.0 in
    let d = and_both w (le_z (pos 0) h.amp) c.0 in
    record { amp = amp_small h.amp d.1 c.1 }

pub phase_ready : (s : Option Held) → phase_within s ≡ true → PhaseOk s
unfolding phase_within held_within
phase_ready None e = tt
phase_ready (Some x) e = head_ready x.head (and_both (head_within x.head) (within 1 9296 x.count) e).0

-- ---- the alignment
all_size : (b : ℕ) (l : List ℤ) (k : ℕ) → all_within b l ≡ true → nat_abs (nth l k) ≤ b
unfolding all_within
all_size b [] k e = omega arith
all_size b (v ∷ vs) zero e = leb-true (nat_abs v) b (and_both (leb (nat_abs v) b) (all_within b vs) e).0
all_size b (v ∷ vs) (suc k) e = all_size b vs k (and_both (leb (nat_abs v) b) (all_within b vs) e).1

right_size : (l : List ℤ) (k : ℕ) → all_within 199010845458432 l ≡ true → nat_abs (nth l k) ≤ 2 ^ 53
right_size l k e = omega (arith, all_size 199010845458432 l k e)

sums_ready : (s : Sums) → sums_within s ≡ true → SumsFit s
unfolding sums_within
sums_ready s e =
    let a = and_both (leb s.count 4194288 && upper_in_range 4194288 s.r 0 11) (all_within 199010845458432 s.p) e in
    let b = and_both (leb s.count 4194288) (upper_in_range 4194288 s.r 0 11) a.0 in
    record { count = omega (arith, leb-true s.count 4194288 b.0); upper = upper_sizes 4194288 (omega arith) s.r b.1; right = λ k h. right_size s.p k a.1 }

either : (a b : Bool) → (a || b) ≡ true → a ≡ false → b ≡ true
either a b e f = rw f at e

line_ready : (e : Equaliser) → (eqb e.filled 0 || eqb e.filled 11) ≡ true → (e.filled ≡ 0) ⊎ (e.filled ≡ 11)
line_ready e h =
    by_test (eqb e.filled 0)
    (λ t. inl (eqb-true e.filled 0 t))
    (λ t. inr (eqb-true e.filled 11 (either (eqb e.filled 0) (eqb e.filled 11) h t)))

meta_place : (k : ℕ) (m : Meta) → meta_within k m ≡ true → m.j ≡ 9291 + k
unfolding meta_within
meta_place k m e =
    let w = within (55771 + k) (2 ^ 62 - 29 + k) m.at in
    let a = and_both (eqb m.j (9291 + k) && w) (slot_in_range m.slot) e in
    eqb-true m.j (9291 + k) (and_both (eqb m.j (9291 + k)) w a.0).0

metas_ready : (w : Metas) → metas_within w ≡ true → Between w
unfolding metas_within
metas_ready w e =
    let n = eqb w.count 5 in
    let a = meta_within 0 w.first in
    let b = meta_within 1 w.second in
    let c = meta_within 2 w.third in
    let d = meta_within 3 w.fourth in
    let f = meta_within 4 w.fifth in
    by_test (eqb w.count 0)
    (λ t. none (eqb-true w.count 0 t))
    (λ t.
    let g = either (eqb w.count 0) (n && a && b && c && d && f) e t in
    let p = and_both (n && a && b && c && d) f g in
    let q = and_both (n && a && b && c) d p.0 in
    let r = and_both (n && a && b) c q.0 in
    let s = and_both (n && a) b r.0 in
    let u = and_both n a s.0 in
    five (eqb-true w.count 5 u.0) (meta_place 0 w.first u.1) (meta_place 1 w.second s.1) (meta_place 2 w.third r.1)
    (meta_place 3 w.fourth q.1) (meta_place 4 w.fifth p.1))

last_ready : (l : Option ℕ) → last_within l ≡ true → last_in_range l ≡ true
unfolding last_within last_in_range within
last_ready None e = refl
last_ready (Some a) e = lt-ltb a (2 ^ 62) (omega (arith, leb-true a (2 ^ 62 - 25) (and_both (leb 55775 a) (leb a (2 ^ 62 - 25)) e).1))

pub back_ready : (b : Back) → back_within b ≡ true → BackOk b
unfolding back_within eq_within
back_ready b e =
    let l = eqb b.eq.filled 0 || eqb b.eq.filled 11 in
    let s = when b.eq.opened then sums_within b.eq.sums else true in
    let a = and_both (l && s && metas_within b.metas) (last_within b.last) e in
    let c = and_both (l && s) (metas_within b.metas) a.0 in
    let d = and_both l s c.0 in
    record {
      filled = line_ready b.eq d.0;
      sums = λ o. sums_ready b.eq.sums (sym (if_yes b.eq.opened (sums_within b.eq.sums) true o) ∙ d.1);
      metas = metas_ready b.metas c.1;
      last = last_ready b.last a.1;
    }

pub points_ready : (p : Points) → points_within p ≡ true → PointsOk p
unfolding points_within
points_ready p e =
    let h = and_both (leb p.bits 5) (leb p.k (2 ^ 24)) e in
    record { bits = leb-true p.bits 5 h.0; k = leb-true p.k (2 ^ 24) h.1 }
