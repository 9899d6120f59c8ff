-- `demap_replay::calls::count` meets its contract. Assumes nothing.
use Rattle.demap_replay.specs.Calls.{count_call}
use Rattle.demap_replay.proofs.calls.count.Goals as goal

pub returns : goal.returns
unfolding count_call
returns c =
    let e = rw c.of_bits.ensures at c.count_put-n.ensures in
    rw (c.turned.ensures, c.single.ensures, c.with_learn.ensures, e)
