-- `frame_replay::given::corrected_at` meets its contract. Assumes nothing.
use Rattle.frame_replay.specs.Given.{corrected_of}
use mir.Facts.{to_z-of_z}
use Rattle.frame_replay.proofs.given.corrected_at.Goals as goal

pub returns : goal.returns
unfolding corrected_of
returns c = rw (to_z-of_z (record { sfits = c.of_bits-2.type_inv }), c.of_bits-2.ensures, c.of_bits.ensures, c.symbol_at-y.ensures, c.symbol_at-r.ensures, c.meta_at-m.ensures)
