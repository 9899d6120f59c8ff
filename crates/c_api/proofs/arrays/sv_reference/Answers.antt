-- `c_api::arrays::sv_reference` meets its contract. Assumes nothing.
use Rattle.c_api.proofs.arrays.sv_reference.Goals as goal

pub returns : goal.returns
returns c = rw (c.of_two.ensures, c.reference.ensures, c.word_numbered.ensures)
