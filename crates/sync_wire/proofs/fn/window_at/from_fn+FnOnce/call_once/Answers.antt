-- The closure of `sync_wire::window_at`, called once, keeps its contract. Assumes nothing.
use Rattle.std.proofs.Common.{refl, to_z-of_z}
use Rattle.sync_wire.proofs.fn.window_at.from_fn+FnOnce.call_once.Goals as goal

pub returns : goal.returns
returns c = (c.args.arg1, (refl, rw (to_z-of_z (record { sfits = c.from_fn.type_inv })) c.from_fn.ensures))
