-- `fields::plain::one` meets its contract. Assumes nothing.
use Rattle.std.proofs.Common.{◌≡◌, ◌%◌, ◌^◌, w8, refl, arith}
use Rattle.wire.proofs.Laws.{read_signed}
use Rattle.fields.proofs.plain.one.Goals as goal

pub returns : goal.returns
returns c =
    let e : c.args.b % 2 ^ 8 ≡ c.args.b = omega (arith, c.ranges.b.fits) in
    rw e (read_signed w8 (2 ^ 7) c.args.b c.cast_signed.result c.ranges.b refl refl c.cast_signed.ensures)
