-- `phase_replay::given::whole_at` meets its contract. Assumes nothing.
use Rattle.phase_replay.specs.Given.{whole_of}
use Rattle.laws.proofs.Size.{back}
use mir.Syntax.{w64}
use Rattle.phase_replay.proofs.given.whole_at.Goals as goal

pub returns : goal.returns
unfolding whole_of
returns c =
    let a = rw (back w64 c.of_bits.result c.of_bits.type_inv) at c.beside.ensures in
    rw (back w64 c.of_bits-4.result c.of_bits-4.type_inv, back w64 c.of_bits-3.result c.of_bits-3.type_inv, back w64 c.of_bits-2.result c.of_bits-2.type_inv, c.of_bits-4.ensures, c.of_bits-3.ensures, c.of_bits-2.ensures, a, c.of_bits.ensures, c.head_at-head.ensures)
