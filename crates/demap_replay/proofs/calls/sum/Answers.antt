-- `demap_replay::calls::sum` meets its contract. Assumes nothing.
use Rattle.demap_replay.specs.Calls.{sum_call}
use Rattle.laws.proofs.Size.{back}
use mir.Syntax.{w64}
use Rattle.demap_replay.proofs.calls.sum.Goals as goal

pub returns : goal.returns
unfolding sum_call
returns c =
    let e = rw (back w64 c.of_bits.result c.of_bits.type_inv, c.of_bits.ensures) at c.sum_put-n.ensures in
    rw (c.turned.ensures, c.single.ensures, c.with_learn.ensures, e)
