-- `demap_replay::told::label` meets its contract. Assumes nothing.
use Rattle.demap_replay.specs.Told.{label_told}
use Rattle.laws.specs.Choice.{if_yes, if_no}
use borrow.Author.Tests.{lt-ltb, le-ltb}
use mathlib.Core.Path.{sym}
use Rattle.demap_replay.proofs.told.label.Goals as goal

pub returns-then-a-lt62 : goal.returns-then-a-lt62
unfolding label_told
returns-then-a-lt62 c = rw c.place.ensures (sym (if_yes _ _ _ (lt-ltb _ _ c.if-a-lt62.true)))

pub returns-else-a-lt62 : goal.returns-else-a-lt62
unfolding label_told
returns-else-a-lt62 c = rw c.single.ensures (sym (if_no _ _ _ (le-ltb _ _ c.if-a-lt62.false)))
