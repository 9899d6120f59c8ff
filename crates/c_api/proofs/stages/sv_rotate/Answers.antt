-- `c_api::stages::sv_rotate` meets its contract. Assumes nothing.
use Rattle.std.proofs.Common.{rules, to_z-of_z}
use mir.Syntax.{w16}
use mir.Val.{SFits}
use Rattle.carrier.specs.Carrier.{started_nco}
use Rattle.c_api.specs.Stages.{rotation}
use Rattle.c_api.proofs.stages.sv_rotate.Goals as goal

pub returns-in-Ok : goal.returns-in-Ok
unfolding rotation started_nco
returns-in-Ok c =
    let fi : SFits w16 c.in-Ok.a.symbol.i = search rules in
    let fq : SFits w16 c.in-Ok.a.symbol.q = search rules in
    let e = rw (to_z-of_z c.ranges.xi, to_z-of_z c.ranges.xq, to_z-of_z c.ranges.freq) at c.rotate.ensures in
    rw (to_z-of_z fi, to_z-of_z fq, ← e, c.in-Ok.is)

pub returns-in-Err : goal.returns-in-Err
unfolding rotation started_nco
returns-in-Err c =
    let e = rw (to_z-of_z c.ranges.xi, to_z-of_z c.ranges.xq, to_z-of_z c.ranges.freq) at c.rotate.ensures in
    rw (c.number.ensures, ← e, c.in-Err.is)
