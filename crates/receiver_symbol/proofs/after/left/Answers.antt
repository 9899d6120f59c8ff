-- `receiver_symbol::after::left` meets its contract. Assumes nothing.
use Rattle.receiver_symbol.specs.Parts.{left_by}
use Rattle.receiver_symbol.proofs.after.left.Goals as goal

pub returns : goal.returns
unfolding left_by
returns c = rw c.kept_window.ensures
