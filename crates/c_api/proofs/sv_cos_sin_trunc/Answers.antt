-- `c_api::sv_cos_sin_trunc` meets its contract. Assumes nothing.
use mathlib.Core.Path.{ap, ◌∙◌}
use Rattle.c_api.specs.Api.{phasor_numbers}
use Rattle.c_api.proofs.sv_cos_sin_trunc.Goals as goal

pub returns : goal.returns
returns c = c.of_two.ensures ∙ ap phasor_numbers c.cos_sin_trunc.ensures
