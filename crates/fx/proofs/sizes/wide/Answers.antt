-- `fx::sizes::wide` meets its contract. Assumes nothing.
use Rattle.std.proofs.Common.{◌^◌, ltb, ap, to_z-of_z}
use Rattle.fx.proofs.sizes.wide.Goals as goal

pub returns : goal.returns
returns c = ap (ltb (2 ^ 60)) (rw (to_z-of_z c.ranges.v) at c.unsigned_abs.ensures.value)
