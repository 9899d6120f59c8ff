-- `demap_replay::calls::next` meets its contract. Assumes nothing.
use Rattle.fields.proofs.Laws.{take_least, drop_least}
use Rattle.demap_replay.specs.Calls.{next_call, next_left}
use borrow.Author.Rules.{rules}
use lib.Seq.{length-take-le}
use mathlib.Core.Path.{sym}
use Rattle.demap_replay.proofs.calls.next.Goals as goal

pub slice_bounds-next-end-2 : goal.slice_bounds-next-end-2
slice_bounds-next-end-2 c = sym (length-take-le _ _ (search rules))

pub returns : goal.returns
unfolding next_call next_left
returns c =
    let a = c.args in
    let n = c.least-n in
    let e = rw (c.of_bits.ensures, n.ensures.0, take_least _ a.learned.now) at c.next-r.ensures in
    (rw (c.renewed.ensures, e.0), rw (e.1, n.ensures.0, drop_least _ a.learned.now))
