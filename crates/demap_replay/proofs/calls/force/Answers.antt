-- `demap_replay::calls::force` meets its contract. Assumes nothing.
use Rattle.demap_replay.specs.Calls.{force_call}
use Rattle.demap_replay.proofs.calls.force.Goals as goal

pub returns : goal.returns
unfolding force_call
returns c = rw (c.turned.ensures, c.single.ensures, c.with_force-m.ensures, c.force_at.ensures)
