-- `c_api::of_one` meets its contract. Assumes nothing.
use Rattle.std.proofs.Common.{to_z-of_z}
use Rattle.c_api.specs.Api.{crossed}
use Rattle.c_api.proofs.of_one.Goals as goal

pub returns-in-Ok : goal.returns-in-Ok
unfolding crossed
returns-in-Ok g c = rw (to_z-of_z (record { sfits = c.one.type_inv }), c.one.ensures, c.in-Ok.is)

pub returns-in-Err : goal.returns-in-Err
unfolding crossed
returns-in-Err g c = rw (c.number.ensures, c.in-Err.is)
