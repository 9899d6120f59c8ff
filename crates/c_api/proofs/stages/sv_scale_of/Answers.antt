-- `c_api::stages::sv_scale_of` meets its contract. Assumes nothing.
use mathlib.Core.Path.{ap, ◌∙◌}
use mir.Facts.{to_z-of_z}
use Rattle.c_api.specs.Api.{number}
use Rattle.c_api.proofs.stages.sv_scale_of.Goals as goal

pub returns : goal.returns
returns c = c.of_one.ensures ∙ ap number (rw (to_z-of_z c.ranges.n0) at c.scale_of.ensures)
