-- `frame::ranged::pushed` meets its contract. Assumes nothing.
use Rattle.frame.specs.Align.{pushed_back}
use Rattle.frame.proofs.ranged.pushed.Goals as goal

pub taken-requires : goal.taken-requires
taken-requires c = rw c.joined_to.ensures c.requires.taken

pub returns : goal.returns
unfolding pushed_back
returns c = rw (c.taken.ensures, c.joined_to.ensures)
