-- `eq_calls::told::told` meets its contract. Assumes nothing.
use Rattle.eq_calls.specs.Told.{told_of}
use Rattle.eq_calls.proofs.told.told.Goals as goal

pub returns : goal.returns
unfolding told_of
returns c = rw (c.from_shown-from.ensures, c.sums_shown-open.ensures, c.sums_shown-solver.ensures, c.of.ensures, c.of-2.ensures, c.flag.ensures)
