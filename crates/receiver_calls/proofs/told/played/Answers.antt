-- `receiver_calls::told::played` meets its contract. Assumes nothing.
use Rattle.receiver_calls.specs.Told.{played_told}
use Rattle.receiver_calls.proofs.told.played.Goals as goal

pub returns : goal.returns
unfolding played_told
returns c = rw (c.kind-3.ensures, c.kind-2.ensures, c.kind.ensures)
