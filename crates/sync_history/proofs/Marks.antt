-- A closed run of the readings, by computing, by the step and by the rules: two missed markers in a row lose, and one does not. Assumes nothing.
use Rattle.sync_heads.specs.Numbers.{slot_in, last_head}
use Rattle.std.specs.Prelude.{None, Some}
use Prim.Native.Nat.{ℕ, zero, suc, ◌+◌, ◌*◌, ◌%◌}
use mathlib.Core.Bool.{true, false, ◌||◌}
use mathlib.Core.Path.{◌≡◌, refl}
use lib.Dec.{eqb}
use lib.IntN.{pos}
use Rattle.laws.specs.Choice as choice
use Rattle.laws.specs.Choice.{when◌then◌else◌, minus}
use Rattle.fx.specs.Fx.{mag_approx}
use Rattle.sync_corr.specs.declared.Both.{Both}
use Rattle.sync_corr.specs.declared.Corr.{Corr}
use Rattle.sync_heads.specs.declared.Stage.TheVariants.{Before}
use Rattle.sync_heads.specs.declared.Taken.{Taken}
use Rattle.sync_heads.specs.Words.{side_of, margin_of, negated, said_of}
use Rattle.sync_heads.specs.Frames.{marks_of, swayed_of, next_slot, unknown_slot, frame_due, gap_of, frame_of, framed_of, tick_of, due_of, elsewhere_of, fsync_course}
use Rattle.sync_history.specs.History.{earlier, first_to}
use Rattle.sync_history.proofs.Read.{markers-tell}
use Rattle.sync_history.specs.Heads.{MarkerLoss, clamped, expected, f_at, first_mark, frame_at, majority, marked_at, markers_lose, missed_at, missed_since, parity, position_at, positive_at, record_since, record_to, slot_at, slot_since, ssync_at, stray_at, stray_since}
use Rattle.sync_heads.specs.Heads.{is_fsync, ssync_of, fsync_of, ssync_taken, fsync_taken, known_of, both_heads, first_of, read_of}

-- heads of even number carry Ssync, the others Fsync, but for the two whose number is a or b: NotFsync
unfoldable pub word : ℕ → ℕ → ℕ → Both
word a b j =
    let none : Corr = record { re = pos 0; im = pos 0 } in
    let plus : Corr = record { re = pos 5; im = pos 0 } in
    let less : Corr = record { re = minus 5; im = pos 0 } in
    when eqb (j % 2) 0
    then record { f = none; s = plus }
    else when eqb j a || eqb j b
    then record { f = less; s = none }
    else record { f = plus; s = none }

unfoldable pub readings : ℕ → ℕ → ℕ → Taken
readings a b zero = record { lost = false; stage = Before; course = record { majority = pos 0; slot = None; last = None; misses = 0; stray = 0; missed = 0 }; first = None; second = None }
readings a b (suc j) =
    let k = readings a b j in
    read_of 9296 k.stage k.course (record { at = 37184 + j * 9296; both = word a b j })

pub record MarkerRuns : Type 0 where
  -- the first mark, at head 5, begins the numbers
  pub first_mark : (readings 5 125 6).course.slot ≡ slot_in 0 0
  -- a mark a frame later is expected, and begins frame 1
  pub second_mark : ((readings 5 125 126).course.slot ≡ slot_in 0 1) × ((readings 5 125 126).course.misses ≡ 0)
  -- missed once: frame 1 all the same
  pub missed : ((readings 5 5 126).course.slot ≡ slot_in 0 1) × ((readings 5 5 126).course.misses ≡ 1) × ((readings 5 5 126).lost ≡ false)
  -- missed twice: lost, and not before
  pub held : (readings 5 5 245).lost ≡ false
  pub loses : (readings 5 5 246).lost ≡ true

pub marker_runs : MarkerRuns
unfolding word readings read_of first_of both_heads known_of fsync_taken ssync_taken fsync_of ssync_of is_fsync said_of negated margin_of side_of mag_approx fsync_course elsewhere_of due_of tick_of framed_of frame_of gap_of frame_due unknown_slot next_slot swayed_of marks_of choice.when◌then◌else◌
marker_runs = record { first_mark = refl; second_mark = (refl, refl); missed = (refl, refl, refl); held = refl; loses = refl }

-- the same by the rules alone: the first mark begins the numbers, a mark a frame later is expected, one miss does not lose, two in a row do
pub record RuleRuns : Type 0 where
  pub first_mark : first_mark (word 5 125) 126 ≡ Some 5
  pub second_mark : marked_at (word 5 125) 125 ≡ true
  pub numbers : (slot_at 9296 37184 None (word 5 125) 5 ≡ slot_in 0 0) × (slot_at 9296 37184 None (word 5 125) 125 ≡ slot_in 0 1)
  pub missed : (missed_at (word 5 5) 125 ≡ true) × (markers_lose (word 5 5) 125 ≡ false)
  pub stray : stray_at (word 5 11) 11 ≡ true
  pub loses : markers_lose (word 5 5) 245 ≡ true
  pub kept : record_to 9296 37184 None (word 5 5) 245 ≡ last_head (37184 + 125 * 9296) 1

pub rule_runs : RuleRuns
unfolding word parity ssync_at f_at positive_at majority clamped marked_at first_to earlier expected missed_since missed_at markers_lose stray_since stray_at slot_at slot_since frame_at frame_of position_at record_to record_since negated margin_of side_of mag_approx choice.when◌then◌else◌
rule_runs = record { first_mark = refl; second_mark = refl; numbers = (refl, refl); missed = (refl, refl); stray = refl; loses = refl; kept = refl }

-- so a loss by markers happens
pub marker_loss_happens : MarkerLoss (word 5 5) 245
marker_loss_happens = (markers-tell (word 5 5) 245).loses_only rule_runs.loses
