-- `wire::of_bits` of an i32 meets its contract. Assumes nothing.
use Rattle.std.proofs.Common.{◌%◌, ◌^◌, Fits, w32, refl, arith}
use Rattle.wire.proofs.Laws.{read_signed}
use Rattle.wire.proofs.I32Field.of_bits.Goals as goal

pub returns : goal.returns
returns c =
    let f : Fits w32 (c.args.u % 2 ^ 32) = record { fits = omega arith } in
    read_signed w32 (2 ^ 31) (c.args.u % 2 ^ 32) c.cast_signed.result f refl refl (rw c.of_bits.ensures at c.cast_signed.ensures)
