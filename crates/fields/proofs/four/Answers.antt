-- `fields::four` meets its contract. Assumes nothing.
use Rattle.fields.specs.Fields.{four_told}
use Rattle.fields.proofs.four.Goals as goal

pub returns : goal.returns
unfolding four_told
returns c = rw (c.copy_from_slice.ensures.after, c.from.ensures)
