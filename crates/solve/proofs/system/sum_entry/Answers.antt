-- `solve::system::sum_entry` meets its contract. Assumes nothing.
use Rattle.std.proofs.Common.{sym, le-ltb, lt-ltb}
use Rattle.laws.specs.Choice.{if_yes, if_no}
use Rattle.solve.specs.System.{entry_of}
use Rattle.solve.proofs.system.sum_entry.Goals as goal

pub returns-then-r-c : goal.returns-then-r-c
unfolding entry_of
returns-then-r-c c =
    rw (c.pair.ensures, c.upper.ensures.0) (sym (if_yes _ _ _ (lt-ltb _ _ c.if-r-c.true)))

pub returns-else-r-c : goal.returns-else-r-c
unfolding entry_of
returns-else-r-c c =
    rw (c.conjugate.ensures, c.pair-else-r-c.ensures, c.upper-else-r-c.ensures.0) (sym (if_no _ _ _ (le-ltb _ _ c.if-r-c.false)))
