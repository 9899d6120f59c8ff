-- `demap_replay::calls::points` meets its contract. Assumes nothing.
use Rattle.fields.proofs.Laws.{take_least, drop_least}
use Rattle.demap_replay.specs.Calls.{points_call, points_left}
use borrow.Author.Rules.{rules}
use lib.Seq.{length-take-le}
use mathlib.Core.Path.{sym}
use Rattle.demap_replay.proofs.calls.points.Goals as goal

pub slice_bounds-points-end-2 : goal.slice_bounds-points-end-2
slice_bounds-points-end-2 c = sym (length-take-le _ _ (search rules))

pub returns : goal.returns
unfolding points_call points_left
returns c =
    let a = c.args in
    let n = c.least-n in
    let e = rw (c.index.ensures, n.ensures.0, take_least _ a.learned.now) at c.points-r.ensures in
    (rw (c.turned.ensures, c.pointed.ensures, e.0), rw (e.1, n.ensures.0, drop_least _ a.learned.now))
