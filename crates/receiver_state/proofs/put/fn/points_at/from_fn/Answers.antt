-- The closure of `receiver_state::put::points_at` meets its contract. Assumes nothing.
use Rattle.std.proofs.Common.{to_z-of_z}
use Rattle.receiver_state.specs.Put.{point_at}
use Rattle.receiver_state.proofs.put.fn.points_at.from_fn.Goals as goal

pub returns : goal.returns
unfolding point_at
returns c = rw (to_z-of_z (record { sfits = c.pair_at.type_inv })) c.pair_at.ensures
