-- `receiver_symbol::heads::loses` meets its contract. Assumes nothing.
use Rattle.receiver.specs.Heads.{loses_in}
use Rattle.receiver_symbol.proofs.heads.loses.Goals as goal

pub returns : goal.returns
unfolding loses_in
returns c = rw (c.is_lost.ensures, c.is_lost-2.ensures, c.is_lost-3.ensures)
