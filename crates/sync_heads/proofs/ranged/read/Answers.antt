-- `sync_heads::ranged::read` meets its contract: one case at each return. Assumes nothing.
use Rattle.sync_heads.specs.Heads.{read_of}
use Rattle.sync_heads.proofs.ranged.read.Goals as goal

pub first-requires : goal.first-requires
first-requires c = (rw c.in-First.is at c.requires.0, c.requires.1, c.requires.2)

pub known-requires : goal.known-requires
known-requires c = (rw c.in-Known.is at c.requires.0, c.requires.1, c.requires.2)

pub returns-in-Before : goal.returns-in-Before
unfolding read_of
returns-in-Before c = rw c.in-Before.is

pub returns-in-First : goal.returns-in-First
unfolding read_of
returns-in-First c = rw c.in-First.is c.first.ensures

pub returns-in-Known : goal.returns-in-Known
unfolding read_of
returns-in-Known c = rw c.in-Known.is c.known.ensures
