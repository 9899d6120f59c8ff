-- `c_api::of_two` meets its contract. Assumes nothing.
use Rattle.std.proofs.Common.{to_z-of_z}
use Rattle.c_api.specs.Api.{crossed_two}
use Rattle.c_api.proofs.of_two.Goals as goal

pub returns-in-Ok : goal.returns-in-Ok
unfolding crossed_two
returns-in-Ok g c = rw (to_z-of_z (record { sfits = c.first.type_inv }), to_z-of_z (record { sfits = c.second.type_inv }), c.first.ensures, c.second.ensures, c.in-Ok.is)

pub returns-in-Err : goal.returns-in-Err
unfolding crossed_two
returns-in-Err g c = rw (c.number.ensures, c.in-Err.is)
