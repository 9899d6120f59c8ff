-- The closure of `sync_replay::given::word` meets its contract. Assumes nothing.
use Rattle.std.proofs.Common.{to_z-of_z}
use Rattle.fields.specs.Fields.{one_at}
use Rattle.sync_replay.proofs.given.fn.word.from_fn.Goals as goal

pub returns : goal.returns
unfolding one_at
returns c = rw (to_z-of_z (record { sfits = c.of_bits.type_inv })) c.of_bits.ensures
