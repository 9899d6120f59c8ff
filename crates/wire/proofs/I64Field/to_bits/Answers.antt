-- `wire::to_bits` of an i64 meets its contract. Assumes nothing.
use Rattle.std.proofs.Common.{to_z-of_z}
use Rattle.wire.proofs.Laws.{bits_read}
use Rattle.wire.proofs.I64Field.to_bits.Goals as goal

pub returns : goal.returns
returns c = rw (rw (to_z-of_z c.ranges.self) at c.cast_unsigned.ensures) (bits_read c.args.self)
