-- The closure of `wire::packed` meets its contract. Assumes nothing.
use Rattle.wire.specs.Wire.{byte_at}
use Rattle.wire.proofs.fn.packed.from_fn.Goals as goal

pub returns : goal.returns
unfolding byte_at
returns c = c.byte.ensures
