-- `fx::turns::scale` meets its contract. Assumes nothing.
use Rattle.std.proofs.Common.{◌^◌, to_z-of_z}
use Rattle.fx.specs.Scale.{cordic_scale}
use Rattle.laws.proofs.Size.{sfits_shr}
use Rattle.fx.proofs.turns.scale.Goals as goal

pub returns : goal.returns
unfolding cordic_scale
returns c =
    let m = 2 ^ c.least_shift-s.result in
    let least = rw (to_z-of_z c.ranges.re, to_z-of_z c.ranges.im) at c.least_shift-s.ensures.0 in
    rw (to_z-of_z c.ranges.re, to_z-of_z c.ranges.im, to_z-of_z (sfits_shr m c.ranges.re), to_z-of_z (sfits_shr m c.ranges.im), least)
