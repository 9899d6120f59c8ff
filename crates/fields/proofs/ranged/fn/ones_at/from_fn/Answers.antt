-- The closure of `fields::ranged::ones_at` meets its contract. Assumes nothing.
use Rattle.std.proofs.Common.{to_z-of_z}
use Rattle.fields.specs.Fields.{one_at}
use Rattle.fields.proofs.ranged.fn.ones_at.from_fn.Goals as goal

pub returns : goal.returns
unfolding one_at
returns c = rw (to_z-of_z (record { sfits = c.one.type_inv })) c.one.ensures
