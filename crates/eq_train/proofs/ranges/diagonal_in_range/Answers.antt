-- `eq_train::ranges::diagonal_in_range` meets its contract. Assumes nothing.
use Prim.Native.Nat.{◌*◌}
use native.Mathlib.Omega.{arith}
use mir.Facts.{to_z-of_z, to_z_pos}
use mir.Syntax.{w64}
use Rattle.eq_train.specs.Ranges.{diagonal_in_range}
use Rattle.eq_train.proofs.Tested.{zero_bits}
use Rattle.eq_train.proofs.ranges.diagonal_in_range.Goals as goal

pub returns : goal.returns
unfolding diagonal_in_range
returns c =
    rw (to_z-of_z c.ranges.re, to_z_pos w64 {n = c.args.n * 2147483648} (omega (arith, c.ranges.n.fits)), zero_bits c.args.im c.ranges.im)
