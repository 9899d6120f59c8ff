-- `sync_wire::parts::course` meets its contract. Assumes nothing.
use Rattle.sync_wire.specs.Parts.{course_by}
use mir.Facts.{to_z-of_z}
use Rattle.sync_wire.proofs.parts.course.Goals as goal

pub returns : goal.returns
unfolding course_by
returns c =
    rw (to_z-of_z (record { sfits = c.of_bits.type_inv }), c.of_bits.ensures, c.of_bits-4.ensures, c.of_bits-3.ensures, c.of_bits-2.ensures)
