-- The closure of `sync_replay::told::packed` meets its contract. Assumes nothing.
use Rattle.std.proofs.Common.{◌/◌, ◌%◌, get_or, arith}
use Rattle.sync_replay.proofs.Laws.{byte_is}
use Rattle.wire.specs.Wire.{byte_at}
use Rattle.sync_replay.proofs.told.fn.packed.from_fn.Goals as goal

pub returns : goal.returns
unfolding byte_at
returns c = rw c.bytes.ensures (byte_is _ (c.args.i % 8) (omega arith))
