-- `in_force::ranged::noise_after` meets its contract. Assumes nothing.
use mathlib.Core.Path.{◌∙◌}
use native.Mathlib.Omega.{arith}
use mir.Facts.{to_z-of_z}
use mir.Syntax.{w64}
use Rattle.laws.proofs.Size.{back}
use Rattle.laws.specs.Choice.{cases}
use Rattle.in_force.specs.InForce.{noise_after}
use Rattle.in_force.proofs.ranged.noise_after.Goals as goal

pub mean_noise-requires : goal.mean_noise-requires
mean_noise-requires c = (c.requires.0, omega arith)

pub returns-then-l-eq0 : goal.returns-then-l-eq0
unfolding noise_after
returns-then-l-eq0 c =
    rw (to_z-of_z c.ranges.old) (search cases, omega (arith, c.requires.1))

pub returns-else-l-eq0 : goal.returns-else-l-eq0
unfolding noise_after
returns-else-l-eq0 c =
    let q = c.mean_noise in
    rw (back w64 q.result q.type_inv) (q.ensures.0 ∙ search cases, omega (arith, q.ensures.1))
