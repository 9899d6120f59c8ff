-- The closure of `sync_wire::window_at` meets its contract. Assumes nothing.
use Rattle.std.proofs.Common.{to_z-of_z}
use Rattle.sync_wire.specs.Given.{window_at}
use Rattle.sync_wire.proofs.fn.window_at.from_fn.Goals as goal

pub returns : goal.returns
unfolding window_at
returns c = rw (to_z-of_z (record { sfits = c.pair_at.type_inv })) c.pair_at.ensures
