-- `receiver_bounds::plain::eq_within` meets its contract. Assumes nothing.
use Rattle.receiver_bounds.specs.Bounds.{eq_within, sums_within}
use Rattle.eq_train.proofs.Tested.{and_true}
use Rattle.laws.specs.Choice.{cases, if_no}
use lib.Dec.{eqb}
use mathlib.Core.Bool.{◌||◌, true}
use mathlib.Core.Path.{sym}
use Rattle.receiver_bounds.proofs.plain.eq_within.Goals as goal

pub returns-then-e : goal.returns-then-e
unfolding eq_within
returns-then-e c = rw c.sums_within.ensures (search cases)

pub returns-else-e : goal.returns-else-e
unfolding eq_within
returns-else-e c =
    let e = c.args.e in
    rw (if_no e.opened (sums_within e.sums) true c.if-e.false) (sym (and_true (eqb e.filled 0 || eqb e.filled 11)))
