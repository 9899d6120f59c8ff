-- `demap_replay::calls::noise_put` meets its contract. Assumes nothing.
use Rattle.demap_replay.specs.Calls.{noise_put_call}
use Rattle.laws.proofs.Size.{back}
use mir.Syntax.{w64}
use Rattle.demap_replay.proofs.calls.noise_put.Goals as goal

pub returns : goal.returns
unfolding noise_put_call
returns c =
    let e = rw (back w64 c.of_bits.result c.of_bits.type_inv, c.of_bits.ensures, c.of_bits-2.ensures) at c.noise_put-n.ensures in
    rw (c.turned.ensures, c.single.ensures, c.with_learn.ensures, e)
