-- `wire::three` meets its contract. Assumes nothing.
use Rattle.wire.specs.Wire.{bytes_of}
use Rattle.wire.proofs.three.Goals as goal

pub returns : goal.returns
unfolding bytes_of
returns c = rw (c.bytes-c.ensures, c.bytes-b.ensures, c.bytes-a.ensures)
