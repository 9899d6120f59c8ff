-- `demap_replay::calls::label` meets its contract. Assumes nothing.
use Rattle.demap_replay.specs.Calls.{label_call}
use Rattle.demap_replay.proofs.calls.label.Goals as goal

pub returns : goal.returns
unfolding label_call
returns c = c.label.ensures
