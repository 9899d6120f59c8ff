-- `frame_replay::given::symbol_at` meets its contract. Assumes nothing.
use Rattle.frame_replay.specs.Given.{symbol_of}
use mir.Facts.{to_z-of_z}
use Rattle.frame_replay.proofs.given.symbol_at.Goals as goal

pub returns : goal.returns
unfolding symbol_of
returns c = rw (to_z-of_z (record { sfits = c.of_bits.type_inv }), to_z-of_z (record { sfits = c.of_bits-2.type_inv }), c.of_bits.ensures, c.of_bits-2.ensures)
