-- `sync_heads::plain::corr_in_range` meets its contract: what the two calls gave. Assumes nothing.
use Rattle.std.proofs.Common.{◌^◌, ◌<◌, w32}
use Rattle.laws.proofs.Size.{back}
use Rattle.sync_heads.specs.Ranges.{corr_in_range}
use lib.Signed.{mag}
use Rattle.sync_heads.proofs.plain.corr_in_range.Goals as goal

pub returns : goal.returns
unfolding corr_in_range
returns c =
    let a = c.args.c in
    let h : mag a.re < 2 ^ 31 = search in
    let k : mag a.im < 2 ^ 31 = search in
    rw (c.part_in_range.ensures, c.part_in_range-2.ensures, back w32 a.re h, back w32 a.im k)
