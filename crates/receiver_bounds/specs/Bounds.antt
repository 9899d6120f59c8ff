-- The ranges of docs/RANGES.md, "Receiver": what receiver calls can leave in each number of a receiver's parts.
use Rattle.std.specs.Prelude.{ℕ, ◌+◌, ◌-◌, ◌%◌, ◌^◌, Bool, true, ◌&&◌, ◌||◌, List, [], ◌∷◌, eqb, leb, ℤ, pos, nat_abs, Option, None, Some}
use Rattle.std.specs.Int.Signed.{le_z}
use Rattle.laws.specs.Choice.{when◌then◌else◌, minus}
use Rattle.sync_corr.specs.declared.Corr.{Corr}
use Rattle.sync_lock.specs.declared.Tally.{Tally}
use Rattle.sync_lock.specs.Ranges.{lock_in_range}
use Rattle.sync_heads.specs.declared.Reading.{Reading}
use Rattle.sync_heads.specs.declared.Stage.{Stage}
use Rattle.sync_heads.specs.declared.Stage.TheVariants.{Before, First, Known}
use Rattle.sync_heads.specs.declared.Head.{Head}
use Rattle.sync_heads.specs.Ranges.{slot_in_range, course_in_range}
use Rattle.sync_step.specs.declared.Run.{Run}
use Rattle.carrier.specs.declared.Nco.{Nco}
use Rattle.carrier.specs.declared.Steps.{Steps}
use Rattle.phase.specs.declared.Held.{Held}
use Rattle.sums.specs.declared.Sums.{Sums}
use Rattle.eq_train.specs.Ranges.{upper_in_range}
use Rattle.eq.specs.declared.Equaliser.{Equaliser}
use Rattle.frame_line.specs.declared.Meta.{Meta}
use Rattle.frame_line.specs.declared.Metas.{Metas}
use Rattle.frame.specs.declared.Back.{Back}
use Rattle.receiver_slot.specs.declared.Points.{Points}

-- from a to b
unfoldable pub within : ℕ → ℕ → ℕ → Bool
within a b v = leb a v && leb v b

-- each number of a list is of size at most b
unfoldable pub all_within : ℕ → List ℤ → Bool
all_within b [] = true
all_within b (v ∷ vs) = leb (nat_abs v) b && all_within b vs

-- ---- carrier: the CORDIC's angles are even, so each of up to 59 differences lies in -2^31 .. 2^31 - 2
unfoldable pub even : ℕ → Bool
even a = eqb (a % 2) 0

unfoldable pub steps_within : Steps → Bool
steps_within s = leb s.steps 59 && le_z (minus 126701535232) s.sum && le_z s.sum (pos 126701535114) && even s.last_ss

unfoldable pub trail_within : Option Steps → Bool
trail_within None = true
trail_within (Some s) = steps_within s

-- phase and step may be any
unfoldable pub nco_within : Nco → Bool
nco_within n = trail_within n.trail

-- ---- slot sync: a rotated part is at most 4,096 in size, both together 4,097; a correlation part 24 times that
unfoldable pub corr_within : Corr → Bool
corr_within c = leb (nat_abs c.re) 98328 && leb (nat_abs c.im) 98328

-- head zero stands four periods after the start at the earliest, and its 24 symbols are accepted
unfoldable pub first_within : Reading → Bool
first_within z = within 37184 (2 ^ 62 - 24) z.at && corr_within z.both.f && corr_within z.both.s

unfoldable pub stage_within : Stage → Bool
stage_within Before = true
stage_within (First z) = first_within z
stage_within (Known p) = corr_within p.last

-- a peak from any lent accumulator and a size of at most 147,468, and 9,296 of them
unfoldable pub tally_within : Tally → Bool
tally_within t = leb t.peak 3758114816 && leb t.place 9295 && leb t.sum 34935435329536

unfoldable pub run_within : Run → Bool
run_within r = leb r.t (2 ^ 62) && tally_within r.tally && lock_in_range r.lock && stage_within r.stage && course_in_range r.course

-- ---- slot phase: a held head is head one at the earliest; its angle and size are the CORDIC's
unfoldable pub head_within : Head → Bool
head_within h =
    within 46480 (2 ^ 62 - 24) h.at && corr_within h.corr && le_z (pos 0) h.amp && le_z h.amp (pos 179130) && slot_in_range h.slot
    && eqb h.nco_phase 0 && even h.theta

-- its first symbol comes in the same call
unfoldable pub held_within : Held → Bool
held_within x = head_within x.head && within 1 9296 x.count

unfoldable pub phase_within : Option Held → Bool
phase_within None = true
phase_within (Some x) = held_within x

-- ---- equaliser: slots come whole, so the line is empty or full. A slot trains 24 times, a stretch's first 19 times, and not at all where that would
-- pass 4,194,304: sums count 4,194,288 at most. References are of size 724
unfoldable pub sums_within : Sums → Bool
sums_within s = leb s.count 4194288 && upper_in_range 4194288 s.r 0 11 && all_within 199010845458432 s.p

unfoldable pub eq_within : Equaliser → Bool
eq_within e = (eqb e.filled 0 || eqb e.filled 11) && (when e.opened then sums_within e.sums else true)

-- ---- alignment: no symbol waits, or the last five of a slot do
unfoldable pub meta_within : ℕ → Meta → Bool
meta_within k m = eqb m.j (9291 + k) && within (55771 + k) (2 ^ 62 - 29 + k) m.at && slot_in_range m.slot

unfoldable pub metas_within : Metas → Bool
metas_within w =
    eqb w.count 0
    || (eqb w.count 5 && meta_within 0 w.first && meta_within 1 w.second && meta_within 2 w.third && meta_within 3 w.fourth
    && meta_within 4 w.fifth)

unfoldable pub last_within : Option ℕ → Bool
last_within None = true
last_within (Some a) = within 55775 (2 ^ 62 - 25) a

unfoldable pub back_within : Back → Bool
back_within b = eq_within b.eq && metas_within b.metas && last_within b.last

-- ---- points: any, with a width and a scale that a load takes, or none
unfoldable pub points_within : Points → Bool
points_within p = leb p.bits 5 && leb p.k (2 ^ 24)
