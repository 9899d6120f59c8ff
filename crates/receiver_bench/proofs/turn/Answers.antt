-- The rest of a stream. Assumes nothing.
use Rattle.receiver.specs.Feed.{Block}
use Rattle.receiver_bench.specs.Streams.{lent_of, rest_of}
use Rattle.receiver_bench.proofs.Laws.{lent_eq, rest_is, rest_within}
use Rattle.receiver_bench.proofs.turn.Goals as goal

pub returns : goal.returns
unfolding rest_of
returns c =
    let a = c.args in
    let g = rw (rest_is a.bytes.now a.k) at c.feed.ensures in
    let b : Block = record { bytes = a.bytes.now; f = a.words.f; s = a.words.s; table = a.table.now } in
    (g.0, lent_eq _ _ _ _ g.1 g.2 g.3, rw g.0 (rest_within b a.k a.r (lent_of a.acc.now a.store.now a.soft.now) c.requires))
