-- The ranges of docs/RANGES.md, "Slot sync", for stage and course. Symbols are of 16 bits.
use Rattle.sync_heads.specs.declared.FrameHead.{FrameHead}
use Rattle.sync_heads.specs.declared.SlotNumber.{SlotNumber}
use Rattle.std.specs.Prelude.{◌-◌, ◌^◌, Bool, true, ◌&&◌, nat_le, unsigned_abs, Option, None, Some}
use Rattle.sync_corr.specs.declared.Corr.{Corr}
use Rattle.sync_corr.specs.declared.Both.{Both}
use Rattle.sync_heads.specs.declared.Reading.{Reading}
use Rattle.sync_heads.specs.declared.Stage.{Stage}
use Rattle.sync_heads.specs.declared.Stage.TheVariants.{Before, First, Known}
use Rattle.sync_heads.specs.declared.Course.{Course}

-- a correlation part is a sum of 48 products
unfoldable pub corr_in_range : Corr → Bool
corr_in_range c = nat_le (unsigned_abs c.re) 1572864 && nat_le (unsigned_abs c.im) 1572864

unfoldable pub both_in_range : Both → Bool
both_in_range b = corr_in_range b.f && corr_in_range b.s

-- a head stands four periods after the start at the earliest, and its 24 symbols are accepted
unfoldable pub reading_in_range : Reading → Bool
reading_in_range r = nat_le 37184 r.at && nat_le r.at (2 ^ 62 - 24) && both_in_range r.both

unfoldable pub stage_in_range : Stage → Bool
stage_in_range Before = true
stage_in_range (First z) = reading_in_range z
stage_in_range (Known p) = corr_in_range p.last

unfoldable pub slot_in_range : Option SlotNumber → Bool
slot_in_range None = true
slot_in_range (Some s) = nat_le s.number 119

-- a frame head is head five at the earliest
unfoldable pub record_in_range : Option FrameHead → Bool
record_in_range None = true
record_in_range (Some s) = nat_le 83664 s.at && nat_le s.at (2 ^ 62 - 24)

unfoldable pub course_in_range : Course → Bool
course_in_range c = nat_le (unsigned_abs c.majority) 8 && slot_in_range c.slot && record_in_range c.last && nat_le c.misses 1
