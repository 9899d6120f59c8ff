-- `demap_replay::given::force_at` meets its contract. Assumes nothing.
use Rattle.demap_replay.specs.Given.{force_of}
use Rattle.laws.proofs.Size.{back}
use mir.Syntax.{w64}
use Rattle.demap_replay.proofs.given.force_at.Goals as goal

pub returns : goal.returns
unfolding force_of
returns c = rw (back w64 c.of_bits.result c.of_bits.type_inv, c.of_bits.ensures, back w64 c.of_bits-2.result c.of_bits-2.type_inv, c.of_bits-2.ensures, c.source_at-s.ensures)
