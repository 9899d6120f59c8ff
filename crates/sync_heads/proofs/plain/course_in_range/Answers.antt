-- `sync_heads::plain::course_in_range` meets its contract: what the calls gave, and both ends of the majority are one test of its size. Assumes nothing.
use Rattle.std.proofs.Common.{◌^◌, ◌<◌, w32}
use Rattle.laws.proofs.Size.{back, within_abs}
use Rattle.sync_heads.specs.Ranges.{course_in_range}
use lib.Signed.{mag}
use Rattle.sync_heads.proofs.plain.course_in_range.Goals as goal

pub returns : goal.returns
unfolding course_in_range
returns c =
    let a = c.args.c in
    let h : mag a.majority < 2 ^ 31 = search in
    rw (c.slot_in_range.ensures, c.record_in_range.ensures, back w32 a.majority h, within_abs a.majority 7)
