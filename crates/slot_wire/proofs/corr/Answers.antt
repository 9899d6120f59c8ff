-- `slot_wire::corr` meets its contract. Assumes nothing.
use Rattle.slot_wire.specs.Slots.{corr_by}
use mir.Facts.{to_z-of_z}
use Rattle.slot_wire.proofs.corr.Goals as goal

pub returns : goal.returns
unfolding corr_by
returns c = rw (to_z-of_z (record { sfits = c.of_bits.type_inv }), to_z-of_z (record { sfits = c.of_bits-2.type_inv }), c.of_bits.ensures, c.of_bits-2.ensures)
