-- `demap_replay::told::frame` meets its contract. Assumes nothing.
use Rattle.demap_replay.specs.Told.{frame_of}
use Rattle.demap_replay.proofs.told.frame.Goals as goal

pub returns-in-None : goal.returns-in-None
unfolding frame_of
returns-in-None c = rw c.in-None.is

pub returns-in-Some : goal.returns-in-Some
unfolding frame_of
returns-in-Some c = rw c.in-Some.is
