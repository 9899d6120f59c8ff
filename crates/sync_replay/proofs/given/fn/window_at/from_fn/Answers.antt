-- The closure of `sync_replay::given::window_at` meets its contract. Assumes nothing.
use Rattle.std.proofs.Common.{to_z-of_z}
use Rattle.sync_replay.specs.Given.{window_entry}
use Rattle.sync_replay.proofs.given.fn.window_at.from_fn.Goals as goal

pub returns : goal.returns
unfolding window_entry
returns c = rw (to_z-of_z (record { sfits = c.of_bits.type_inv })) c.of_bits.ensures
