-- `wire::of_bits` of an i8 meets its contract. Assumes nothing.
use Rattle.std.proofs.Common.{◌%◌, ◌^◌, Fits, w8, refl, arith}
use Rattle.wire.proofs.Laws.{read_signed}
use Rattle.wire.proofs.I8Field.of_bits.Goals as goal

pub returns : goal.returns
returns c =
    let f : Fits w8 (c.args.u % 2 ^ 8) = record { fits = omega arith } in
    read_signed w8 (2 ^ 7) (c.args.u % 2 ^ 8) c.cast_signed.result f refl refl (rw c.of_bits.ensures at c.cast_signed.ensures)
