-- `in_force::plain::in_range` meets its contract. Assumes nothing.
use Prim.Native.Nat.{◌<◌, ◌^◌}
use lib.Signed.{mag}
use mir.Syntax.{w64}
use Rattle.laws.proofs.Size.{back}
use Rattle.in_force.specs.InForce.{force_in_range}
use Rattle.in_force.proofs.plain.in_range.Goals as goal

pub returns : goal.returns
unfolding force_in_range
returns c =
    let f = c.args.f in
    let h : mag f.n0 < 2 ^ 63 = search in
    let k : mag f.k < 2 ^ 63 = search in
    rw (back w64 f.n0 h, back w64 f.k k)
