-- `carrier::plain::steps_in_range` meets its contract. Assumes nothing.
use Prim.Native.Nat.{◌<◌, ◌^◌}
use lib.Signed.{mag}
use mir.Syntax.{w64}
use Rattle.laws.proofs.Size.{back}
use Rattle.carrier.specs.Ranges.{steps_in_range}
use Rattle.carrier.proofs.plain.steps_in_range.Goals as goal

pub returns : goal.returns
unfolding steps_in_range
returns c =
    let s = c.args.s in
    let h : mag s.sum < 2 ^ 63 = search in
    rw (back w64 s.sum h)
