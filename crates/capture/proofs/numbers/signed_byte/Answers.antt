-- `capture::numbers::signed_byte` meets its contract. Assumes nothing.
use mathlib.Core.Path.{refl}
use native.Mathlib.Omega.{arith}
use mir.Syntax.{w8}
use Rattle.wire.proofs.Laws.{read_signed}
use Rattle.capture.specs.Bytes.{signed_byte}
use Rattle.capture.proofs.numbers.signed_byte.Goals as goal

pub returns : goal.returns
unfolding signed_byte
returns c = read_signed w8 128 c.args.b c.cast_signed.result (record { fits = omega arith }) refl refl c.cast_signed.ensures
