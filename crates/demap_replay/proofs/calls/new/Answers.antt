-- `demap_replay::calls::new` meets its contract. Assumes nothing.
use Rattle.demap_replay.specs.Calls.{new_call}
use Rattle.demap_replay.proofs.calls.new.Goals as goal

pub returns : goal.returns
unfolding new_call
returns c = rw (c.turned.ensures, c.single.ensures, c.with_learn-m.ensures, c.new.ensures)
