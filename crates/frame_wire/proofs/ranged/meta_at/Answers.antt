-- `frame_wire::ranged::meta_at` meets its contract. Assumes nothing.
use Rattle.frame_wire.specs.Line.{meta_at}
use Rattle.frame_wire.proofs.ranged.meta_at.Goals as goal

pub returns : goal.returns
unfolding meta_at
returns c = rw (c.of_bits.ensures, c.slot_at.ensures, c.word_of.ensures)
