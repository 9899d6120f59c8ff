-- `demap_replay::told::single` meets its contract. Assumes nothing.
use Rattle.demap_replay.specs.Told.{single_told}
use Rattle.demap_replay.proofs.told.single.Goals as goal

pub returns : goal.returns
unfolding single_told
returns c = c.told.ensures
