-- `receiver_calls::told::ended` meets its contract. Assumes nothing.
use Rattle.receiver_calls.specs.Told.{ended_told}
use Rattle.receiver_calls.proofs.told.ended.Goals as goal

pub returns : goal.returns
unfolding ended_told
returns c = rw (c.flag.ensures, c.sums_shown-d.ensures)
