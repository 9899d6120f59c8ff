-- `c_api::sv_cordic_scale` meets its contract. Assumes nothing.
use mathlib.Core.Path.{ap, ◌∙◌}
use mir.Facts.{to_z-of_z}
use Rattle.c_api.specs.Api.{part_numbers}
use Rattle.c_api.proofs.sv_cordic_scale.Goals as goal

pub returns : goal.returns
returns c = c.of_two.ensures ∙ ap part_numbers (rw (to_z-of_z c.ranges.re, to_z-of_z c.ranges.im) at c.cordic_scale.ensures)
