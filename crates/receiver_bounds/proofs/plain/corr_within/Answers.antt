-- `receiver_bounds::plain::corr_within` meets its contract. Assumes nothing.
use Prim.Native.Nat.{◌<◌, ◌^◌}
use Rattle.receiver_bounds.specs.Bounds.{corr_within}
use Rattle.laws.proofs.Size.{back}
use lib.Signed.{mag}
use mir.Syntax.{w32}
use Rattle.receiver_bounds.proofs.plain.corr_within.Goals as goal

pub returns : goal.returns
unfolding corr_within
returns c =
    let a = c.args.c in
    let h : mag a.re < 2 ^ 31 = search in
    let k : mag a.im < 2 ^ 31 = search in
    rw (c.part_within.ensures, c.part_within-2.ensures, back w32 a.re h, back w32 a.im k)
