-- `capture::numbers::number` meets its contract. Assumes nothing.
use native.Mathlib.Omega.{arith}
use Rattle.capture.specs.Bytes.{number_at}
use Rattle.capture.proofs.numbers.number.Goals as goal

pub returns : goal.returns
unfolding number_at
returns c = omega (arith, c.from_le_bytes.ensures)
