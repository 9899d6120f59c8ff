-- `receiver_bounds::plain::head_within` meets its contract. Assumes nothing.
use Prim.Native.Nat.{◌<◌, ◌^◌}
use Rattle.receiver_bounds.specs.Bounds.{head_within}
use Rattle.laws.proofs.Size.{back}
use lib.Signed.{mag}
use mir.Syntax.{w64}
use Rattle.receiver_bounds.proofs.plain.head_within.Goals as goal

pub returns : goal.returns
unfolding head_within
returns c =
    let a = c.args.h in
    let h : mag a.amp < 2 ^ 63 = search in
    rw (c.between.ensures, c.corr_within.ensures, c.slot_in_range.ensures, c.even.ensures, back w64 a.amp h)
