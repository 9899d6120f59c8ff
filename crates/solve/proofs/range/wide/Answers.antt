-- `solve::range::wide` meets its contract. Assumes nothing.
use Rattle.std.proofs.Common.{to_z-of_z}
use Rattle.solve.proofs.Laws.{wide_is}
use Rattle.solve.proofs.range.wide.Goals as goal

pub returns : goal.returns
returns c = rw (to_z-of_z c.ranges.v) (wide_is c.args.v)
