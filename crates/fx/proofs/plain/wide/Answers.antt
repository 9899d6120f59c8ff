-- `fx::plain::wide` meets its contract. Assumes nothing.
use Rattle.std.proofs.Common.{to_z-of_z}
use Rattle.fx.proofs.plain.wide.Goals as goal

pub returns : goal.returns
returns c = rw (to_z-of_z c.ranges.v) at c.wide.ensures
