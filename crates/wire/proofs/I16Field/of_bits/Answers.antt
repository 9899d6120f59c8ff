-- `wire::of_bits` of an i16 meets its contract. Assumes nothing.
use Rattle.std.proofs.Common.{◌%◌, ◌^◌, Fits, w16, refl, arith}
use Rattle.wire.proofs.Laws.{read_signed}
use Rattle.wire.proofs.I16Field.of_bits.Goals as goal

pub returns : goal.returns
returns c =
    let f : Fits w16 (c.args.u % 2 ^ 16) = record { fits = omega arith } in
    read_signed w16 (2 ^ 15) (c.args.u % 2 ^ 16) c.cast_signed.result f refl refl (rw c.of_bits.ensures at c.cast_signed.ensures)
