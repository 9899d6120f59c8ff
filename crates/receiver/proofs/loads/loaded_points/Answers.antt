-- `receiver::loads::loaded_points` meets its contract. Assumes nothing.
use Rattle.receiver.specs.Answers.{loaded_points}
use mathlib.Core.Path.{◌∙◌}
use mir.Facts.{to_z-of_z}
use mir.Syntax.{w64}
use native.Mathlib.Omega.{arith}
use Rattle.receiver.proofs.loads.loaded_points.Goals as goal

pub overflow_cast-result : goal.overflow_cast-result
overflow_cast-result c =
    let e = to_z-of_z {w = w64} c.ranges.k ∙ c.requires.1 in
    rw e (tt, record { fits = omega (arith, c.requires.2) })

pub returns : goal.returns
unfolding loaded_points
returns c = rw (c.filled.ensures, to_z-of_z {w = w64} c.ranges.k)
