-- `demap_replay::told::known` meets its contract. Assumes nothing.
use Rattle.demap_replay.specs.Told.{known_of}
use Rattle.demap_replay.proofs.told.known.Goals as goal

pub returns-in-None : goal.returns-in-None
unfolding known_of
returns-in-None c = rw c.in-None.is

pub returns-in-Some : goal.returns-in-Some
unfolding known_of
returns-in-Some c = rw c.in-Some.is
