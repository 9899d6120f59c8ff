-- `receiver_bounds::plain::steps_within` meets its contract. Assumes nothing.
use Prim.Native.Nat.{◌<◌, ◌^◌}
use lib.Signed.{mag}
use mir.Syntax.{w64}
use Rattle.laws.proofs.Size.{back}
use Rattle.receiver_bounds.specs.Bounds.{steps_within}
use Rattle.receiver_bounds.proofs.plain.steps_within.Goals as goal

pub returns : goal.returns
unfolding steps_within
returns c =
    let s = c.args.s in
    let h : mag s.sum < 2 ^ 63 = search in
    rw (back w64 s.sum h, c.even.ensures)
