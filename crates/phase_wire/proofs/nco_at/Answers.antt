-- `phase_wire::nco_at` meets its contract. Assumes nothing.
use Rattle.phase_wire.specs.Given.{nco_of}
use mir.Facts.{to_z-of_z}
use Rattle.phase_wire.proofs.nco_at.Goals as goal

pub returns : goal.returns
unfolding nco_of
returns c = rw (to_z-of_z (record { sfits = c.of_bits-2.type_inv }), c.of_bits-2.ensures, c.of_bits.ensures, c.trail_at.ensures)
