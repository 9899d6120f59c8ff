-- `phase_wire::ranged::head_at` meets its contract. Assumes nothing.
use Rattle.phase_wire.specs.Given.{head_of}
use mir.Facts.{to_z-of_z}
use Rattle.phase_wire.proofs.ranged.head_at.Goals as goal

pub returns : goal.returns
unfolding head_of
returns c = rw (to_z-of_z (record { sfits = c.of_bits-2.type_inv }), c.of_bits-3.ensures, c.of_bits-2.ensures, c.of_bits.ensures, c.corr_at.ensures, c.slot_at.ensures, c.word_of.ensures)
