-- `demap_replay::given::sum_put` meets its contract. Assumes nothing.
use Rattle.demap_replay.specs.Given.{sum_put}
use Rattle.laws.specs.Choice.{if_yes, if_no}
use borrow.Author.Tests.{lt-ltb, le-ltb}
use mathlib.Core.Path.{sym}
use mir.Facts.{to_z-of_z}
use Rattle.demap_replay.proofs.given.sum_put.Goals as goal

pub returns-then-k-lt124 : goal.returns-then-k-lt124
unfolding sum_put
returns-then-k-lt124 c = rw (to_z-of_z c.ranges.v) (sym (if_yes _ _ _ (lt-ltb _ _ c.if-k-lt124.true)))

pub returns-else-k-lt124 : goal.returns-else-k-lt124
unfolding sum_put
returns-else-k-lt124 c = sym (if_no _ _ _ (le-ltb _ _ c.if-k-lt124.false))
