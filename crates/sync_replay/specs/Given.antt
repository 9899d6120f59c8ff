-- Words and states as the places hold them: 0 to 47 the F word, 48 to 95 the S word, 96 to 143 the window, 144 on the state.
use Rattle.sync_heads.specs.declared.FrameHead.{FrameHead}
use Rattle.std.specs.Prelude.{ℕ, ◌+◌, ◌*◌, ◌^◌, List, ℤ, Option}
use Rattle.laws.specs.Ranges.{firsts}
use Rattle.sync_lock.specs.declared.Tally.{Tally}
use Rattle.sync_lock.specs.declared.Lock.{Lock}
use Rattle.sync_heads.specs.declared.Stage.{Stage}
use Rattle.sync_heads.specs.declared.Course.{Course}
use Rattle.sync_step.specs.declared.Run.{Run}
use Rattle.sync.specs.declared.SlotSync.{SlotSync}
use Rattle.fields.specs.Fields.{at, at32, signed16, on}
use Rattle.slot_wire.specs.Slots.{slot_of, corr_of}
use Rattle.sync_wire.specs.Parts.{tally_by, lock_by, stage_by, record_by, course_by}

-- the number of two places, the low half first
unfoldable pub wide_at : List ℕ → ℕ → ℕ
wide_at p k = at32 p k + 2 ^ 32 * at32 p (k + 1)

unfoldable pub window_entry : List ℕ → ℕ → ℤ
window_entry p i = signed16 p (96 + i)

unfoldable pub window_of : List ℕ → List ℤ
window_of p = firsts (window_entry p) 48

unfoldable pub tally_of : List ℕ → Tally
tally_of p = tally_by (at p 148) (at p 149) (wide_at p 150)

unfoldable pub lock_of : List ℕ → Lock
lock_of p = lock_by (at p 152) (at p 153) (at p 154)

unfoldable pub stage_of : List ℕ → Stage
stage_of p =
    stage_by (at p 155)
    (record { at = wide_at p 156; both = record { f = corr_of p 158; s = corr_of p 160 } })
    (record { odd = on p 162; due = on p 163; last = corr_of p 164 })

unfoldable pub record_of : List ℕ → Option FrameHead
record_of p = record_by (at p 170) (wide_at p 171) (at p 173)

unfoldable pub course_of : List ℕ → Course
course_of p = course_by (at p 166) (slot_of p 167) (record_of p) (at p 174) (at p 175) (at p 176)

unfoldable pub run_of : List ℕ → Run
run_of p = record { base = wide_at p 144; t = wide_at p 146; tally = tally_of p; lock = lock_of p; stage = stage_of p; course = course_of p }

unfoldable pub state_of : List ℕ → SlotSync
state_of p = record { win = window_of p; run = run_of p }
