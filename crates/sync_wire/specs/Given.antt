-- A slot sync as the numbers of a call hold it.
use Rattle.sync_heads.specs.declared.FrameHead.{FrameHead}
use Rattle.std.specs.Prelude.{ℕ, ◌+◌, ◌*◌, List, ℤ, Option}
use Rattle.laws.specs.Ranges.{firsts}
use Rattle.sync_lock.specs.declared.Tally.{Tally}
use Rattle.sync_lock.specs.declared.Lock.{Lock}
use Rattle.sync_heads.specs.declared.Stage.{Stage}
use Rattle.sync_heads.specs.declared.Course.{Course}
use Rattle.sync_step.specs.declared.Run.{Run}
use Rattle.fields.specs.Fields.{at, on, pair_at}
use Rattle.slot_wire.specs.Slots.{slot_of, corr_of}
use Rattle.sync_wire.specs.Parts.{tally_by, lock_by, stage_by, record_by, course_by}

-- ---- numbers 1 to 8: base, count; the running period's peak, its place, sum; whether it is locked, candidate or offset, count or misses
unfoldable pub tally_of : List ℕ → Tally
tally_of p = tally_by (at p 3) (at p 4) (at p 5)

unfoldable pub lock_of : List ℕ → Lock
lock_of p = lock_by (at p 6) (at p 7) (at p 8)

unfoldable pub run_put : Run → List ℕ → Run
run_put r p = record { base = at p 1; t = at p 2; tally = tally_of p; lock = lock_of p; stage = r.stage; course = r.course }

-- ---- numbers 1 to 16: 0 no head, 1 head zero held, otherwise the parity is known; the numbers of that stage; majority, slot, frame record, marks
-- missed in a row, strayed and missed
unfoldable pub stage_of : List ℕ → Stage
stage_of p =
    stage_by (at p 1)
    (record { at = at p 2; both = record { f = corr_of p 3; s = corr_of p 5 } })
    (record { odd = on p 2; due = on p 3; last = corr_of p 4 })

unfoldable pub record_of : List ℕ → Option FrameHead
record_of p = record_by (at p 11) (at p 12) (at p 13)

unfoldable pub course_of : List ℕ → Course
course_of p = course_by (at p 7) (slot_of p 8) (record_of p) (at p 14) (at p 15) (at p 16)

unfoldable pub heads_put : Run → List ℕ → Run
heads_put r p = record { base = r.base; t = r.t; tally = r.tally; lock = r.lock; stage = stage_of p; course = course_of p }

-- ---- the window: 48 times 16 bits, from byte 8 on
unfoldable pub window_at : List ℕ → ℕ → ℤ
window_at bytes k = pair_at bytes (8 + 2 * k)

unfoldable pub window_of : List ℕ → List ℤ
window_of bytes = firsts (window_at bytes) 48
