-- `c_api::stages::sv_part` meets its contract. Assumes nothing.
use Rattle.c_api.proofs.stages.sv_part.Goals as goal

pub returns : goal.returns
returns c = rw (c.of_two.ensures, c.part.ensures)
