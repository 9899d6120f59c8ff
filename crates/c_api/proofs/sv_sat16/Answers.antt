-- `c_api::sv_sat16` meets its contract. Assumes nothing.
use mathlib.Core.Path.{ap, ◌∙◌}
use mir.Facts.{to_z-of_z}
use Rattle.c_api.specs.Api.{number}
use Rattle.c_api.proofs.sv_sat16.Goals as goal

pub returns : goal.returns
returns c = c.of_one.ensures ∙ ap number (rw (to_z-of_z c.ranges.v) at c.sat16.ensures)
