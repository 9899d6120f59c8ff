-- `receiver_state::turn` meets its contract. Assumes nothing.
use Rattle.receiver_state.specs.Turns.{turn_of}
use Rattle.receiver_state.proofs.turn.Goals as goal

pub returns : goal.returns
unfolding turn_of
returns c = rw (c.part.ensures, c.part-q.ensures)
