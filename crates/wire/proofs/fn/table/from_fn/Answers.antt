-- The closure of `wire::table` meets its contract. Assumes nothing.
use Rattle.std.proofs.Common.{to_z-of_z}
use Rattle.wire.specs.Wire.{entry_at}
use Rattle.wire.proofs.fn.table.from_fn.Goals as goal

pub returns : goal.returns
unfolding entry_at
returns c = rw (to_z-of_z (record { sfits = c.entry.type_inv })) c.entry.ensures
