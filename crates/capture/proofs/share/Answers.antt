-- `capture::share` meets its contract. Assumes nothing.
use Rattle.capture.specs.Blocks.{shared_of}
use Rattle.capture.proofs.share.Goals as goal

pub returns : goal.returns
unfolding shared_of
returns c = rw c.min.ensures
