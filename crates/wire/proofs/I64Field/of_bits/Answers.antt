-- `wire::of_bits` of an i64 meets its contract. Assumes nothing.
use Rattle.std.proofs.Common.{◌^◌, w64, refl}
use Rattle.wire.proofs.Laws.{read_signed}
use Rattle.wire.proofs.I64Field.of_bits.Goals as goal

pub returns : goal.returns
returns c = read_signed w64 (2 ^ 63) c.args.u c.cast_signed.result c.ranges.u refl refl c.cast_signed.ensures
