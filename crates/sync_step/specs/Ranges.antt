-- The ranges of docs/RANGES.md, "Slot sync", and what the step needs of a run; the ranges and an accepted position imply it.
use Rattle.std.specs.Prelude.{◌+◌, ◌≤◌, ◌<◌, ◌^◌, Bool, ◌&&◌, leb}
use Rattle.sync_lock.specs.Ranges.{tally_in_range, lock_in_range, Lockable}
use Rattle.sync_heads.specs.Ranges.{stage_in_range, course_in_range}
use Rattle.sync_heads.specs.Ready.{StageOk, CourseOk}
use Rattle.sync_step.specs.declared.Run.{Run}

-- the restart position may be any
unfoldable pub run_in_range : Run → Bool
run_in_range r = leb r.t (2 ^ 62) && tally_in_range r.tally && lock_in_range r.lock && stage_in_range r.stage && course_in_range r.course

pub record RunOk (r : Run) : Type 0 where
  pub time : r.base + r.t < 2 ^ 62
  pub sum : r.tally.sum ≤ 2 ^ 50
  pub lock : Lockable r.lock
  pub stage : StageOk r.stage
  pub course : CourseOk r.course
