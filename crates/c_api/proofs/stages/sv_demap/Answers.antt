-- `c_api::stages::sv_demap` meets its contract. Assumes nothing.
use mathlib.Core.Path.{ap, ◌∙◌}
use mir.Facts.{to_z-of_z}
use Rattle.c_api.specs.Api.{number}
use Rattle.c_api.proofs.stages.sv_demap.Goals as goal

pub returns : goal.returns
returns c =
    let g = rw (to_z-of_z c.ranges.yi, to_z-of_z c.ranges.yq, to_z-of_z c.ranges.k) at c.demap.ensures in
    (c.of_one.ensures ∙ ap number g.0, g.1)
