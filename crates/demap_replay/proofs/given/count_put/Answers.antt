-- `demap_replay::given::count_put` meets its contract. Assumes nothing.
use Rattle.demap_replay.specs.Given.{count_put}
use Rattle.laws.specs.Choice.{if_yes, if_no}
use borrow.Author.Tests.{lt-ltb, le-ltb}
use mathlib.Core.Path.{sym}
use Rattle.demap_replay.proofs.given.count_put.Goals as goal

pub returns-then-k-lt62 : goal.returns-then-k-lt62
unfolding count_put
returns-then-k-lt62 c = sym (if_yes _ _ _ (lt-ltb _ _ c.if-k-lt62.true))

pub returns-else-k-lt62 : goal.returns-else-k-lt62
unfolding count_put
returns-else-k-lt62 c = sym (if_no _ _ _ (le-ltb _ _ c.if-k-lt62.false))
