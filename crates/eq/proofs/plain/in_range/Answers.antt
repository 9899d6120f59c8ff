use Rattle.eq_train.specs.Ranges.{sums_in_range}
use Rattle.eq_train.proofs.Tested.{and_true}
use Rattle.eq.specs.Ranges.{eq_in_range}
use Rattle.laws.specs.Choice.{cases, if_no}
use lib.Dec.{leb}
use mathlib.Core.Bool.{true}
use mathlib.Core.Path.{sym}
use Rattle.eq.proofs.plain.in_range.Goals as goal

pub returns-then-e : goal.returns-then-e
unfolding eq_in_range
returns-then-e c = rw c.in_range.ensures (search cases)

pub returns-else-e : goal.returns-else-e
unfolding eq_in_range
returns-else-e c = let e = c.args.e in
    rw (if_no e.opened (sums_in_range e.sums) true c.if-e.false) (sym (and_true (leb e.filled 11)))
