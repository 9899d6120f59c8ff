-- `demap_replay::calls::default` meets its contract. Assumes nothing.
use Rattle.demap_replay.specs.Calls.{default_call}
use Rattle.demap_replay.proofs.calls.default.Goals as goal

pub returns : goal.returns
unfolding default_call
returns c = rw (c.turned.ensures, c.single.ensures, c.with_force-m.ensures, c.default.ensures)
