-- `receiver_symbol::after::taken` meets its contract. Assumes nothing.
use Rattle.receiver_symbol.specs.Parts.{taken_by}
use Rattle.receiver_symbol.proofs.after.taken.Goals as goal

pub returns : goal.returns
unfolding taken_by
returns c = (rw c.after.ensures.0, c.store.ensures, c.after.ensures.1)
