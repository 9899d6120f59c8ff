-- `receiver_replay::stores::restart` meets its contract. Assumes nothing.
use Rattle.fields.proofs.Laws.{drop_least, take_least}
use Rattle.receiver_replay.specs.Calls.{restart_left, restart_turn}
use borrow.Author.Rules.{rules}
use lib.Seq.{length-take-le}
use mathlib.Core.Path.{sym}
use Rattle.receiver_replay.proofs.stores.restart.Goals as goal

pub slice_bounds-restart-end-2 : goal.slice_bounds-restart-end-2
unfolding restart_turn restart_left
slice_bounds-restart-end-2 c = sym (length-take-le _ _ (search rules))

pub returns : goal.returns
unfolding restart_turn restart_left
returns c =
    let l = c.args.acc.now in
    let e = rw (c.least-n.ensures.0, take_least _ l) at c.restart.ensures in
    (rw (c.answered.ensures, e.0), rw (e.1, c.least-n.ensures.0, drop_least _ l))
