-- `demap_replay::calls::noise` meets its contract. Assumes nothing.
use Rattle.demap_replay.specs.Calls.{noise_call}
use Rattle.laws.proofs.Size.{back}
use mir.Syntax.{w16, w64}
use Rattle.demap_replay.proofs.calls.noise.Goals as goal

pub returns : goal.returns
unfolding noise_call
returns c =
    let e = rw (back w16 c.of_bits.result c.of_bits.type_inv, c.of_bits.ensures, back w16 c.of_bits-2.result c.of_bits-2.type_inv, c.of_bits-2.ensures, back w64 c.of_bits-3.result c.of_bits-3.type_inv, c.of_bits-3.ensures) at c.noise-r.ensures in
    rw (c.learned.ensures, e)
