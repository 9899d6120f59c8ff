-- Parts of a run from their numbers, each taken to the width of its field by its low bits.
use Rattle.std.specs.Prelude.{ℕ, ◌%◌, ◌^◌, eqb, Option, None}
use Rattle.laws.specs.Choice.{when◌then◌else◌}
use Rattle.wire.specs.Wire.{signed}
use Rattle.sync_lock.specs.declared.Tally.{Tally}
use Rattle.sync_lock.specs.declared.Lock.{Lock}
use Rattle.sync_lock.specs.declared.Lock.TheVariants.{Search, Locked}
use Rattle.sync_heads.specs.Numbers.{last_head}
use Rattle.sync_heads.specs.declared.SlotNumber.{SlotNumber}
use Rattle.sync_heads.specs.declared.FrameHead.{FrameHead}
use Rattle.sync_heads.specs.declared.Reading.{Reading}
use Rattle.sync_heads.specs.declared.Parity.{Parity}
use Rattle.sync_heads.specs.declared.Stage.{Stage}
use Rattle.sync_heads.specs.declared.Stage.TheVariants.{Before, First, Known}
use Rattle.sync_heads.specs.declared.Course.{Course}

-- the running period's peak, its place, sum
unfoldable pub tally_by : ℕ → ℕ → ℕ → Tally
tally_by peak place sum = record { peak = peak % 2 ^ 32; place = place % 2 ^ 16; sum = sum }

-- 0 searching, otherwise locked; candidate or offset, count or misses
unfoldable pub lock_by : ℕ → ℕ → ℕ → Lock
lock_by locked place count =
    when eqb locked 0 then Search (place % 2 ^ 16) (count % 2 ^ 32) else Locked (place % 2 ^ 16) (count % 2 ^ 32)

-- 0 no head, 1 head zero held, otherwise the parity is known
unfoldable pub stage_by : ℕ → Reading → Parity → Stage
stage_by n first known = when eqb n 0 then Before else when eqb n 1 then First first else Known known

-- whether there is a record, its position, its frame
unfoldable pub record_by : ℕ → ℕ → ℕ → Option FrameHead
record_by known at frame = when eqb known 0 then None else last_head at (frame % 2 ^ 32)

-- majority, slot, frame record, marks missed in a row, strayed and missed
unfoldable pub course_by : ℕ → Option SlotNumber → Option FrameHead → ℕ → ℕ → ℕ → Course
course_by majority slot last misses stray missed =
    record {
      majority = signed (2 ^ 31) (majority % 2 ^ 32);
      slot = slot;
      last = last;
      misses = misses % 2 ^ 32;
      stray = stray % 2 ^ 32;
      missed = missed % 2 ^ 32;
    }
