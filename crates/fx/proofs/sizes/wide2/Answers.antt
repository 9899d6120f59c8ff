-- `fx::sizes::wide2` meets its contract. Assumes nothing.
use Rattle.std.proofs.Common.{◌||◌, ap₂, to_z-of_z}
use Rattle.fx.proofs.sizes.wide2.Goals as goal

pub returns : goal.returns
returns c =
    ap₂ ◌||◌ (rw (to_z-of_z c.ranges.a) at c.wide.ensures) (rw (to_z-of_z c.ranges.b) at c.wide-2.ensures)
