-- `demap_replay::told::told` meets its contract. Assumes nothing.
use Rattle.demap_replay.specs.Told.{told}
use mathlib.Core.Path.{refl}
use Rattle.demap_replay.proofs.told.told.Goals as goal

pub returns : goal.returns
unfolding told
returns c = refl
