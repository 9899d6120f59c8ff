-- `receiver_replay::stores::look` meets its contract. Assumes nothing.
use Rattle.receiver_replay.specs.Calls.{look_turn}
use Rattle.receiver_replay.proofs.stores.look.Goals as goal

pub returns : goal.returns
unfolding look_turn
returns c = rw (c.turned.ensures, c.four.ensures, c.of.ensures, c.of-2.ensures, c.of-3.ensures)
