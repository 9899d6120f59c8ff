-- `wire::byte` meets its contract. Assumes nothing.
use Rattle.wire.specs.Wire.{bytes_of}
use Rattle.wire.proofs.Laws.{byte_in}
use Rattle.wire.proofs.byte.Goals as goal

pub returns : goal.returns
returns c = rw c.bytes.ensures (byte_in c.args.u c.args.j c.requires)
