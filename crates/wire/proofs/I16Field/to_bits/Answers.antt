-- `wire::to_bits` of an i16 meets its contract. Assumes nothing.
use Rattle.std.proofs.Common.{FitsSigned, w64, to_z-of_z}
use mir.Facts.{sfits_widen}
use mir.Syntax.{w16}
use Rattle.wire.proofs.I16Field.to_bits.Goals as goal

pub returns : goal.returns
returns c =
    let f : FitsSigned w64 c.args.self = sfits_widen {w = w16} {w' = w64} tt c.ranges.self in
    let from = rw (to_z-of_z c.ranges.self) at c.from.ensures in
    rw (from, to_z-of_z f) at c.to_bits.ensures
