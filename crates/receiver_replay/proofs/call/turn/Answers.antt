-- `receiver_replay::call::turn` meets its contract. Assumes nothing.
use Rattle.laws.specs.Choice.{if_no, if_yes}
use Rattle.receiver_replay.specs.Replay.{turn_of}
use borrow.Author.Tests.{le-ltb, lt-ltb}
use mathlib.Core.Path.{◌∙◌, sym}
use Rattle.receiver_replay.proofs.call.turn.Goals as goal

pub returns-then-op-lt64 : goal.returns-then-op-lt64
unfolding turn_of
returns-then-op-lt64 c = rw c.turn.ensures (sym (if_yes _ _ _ (lt-ltb _ _ c.if-op-lt64.true)))

pub returns-else-op-lt64 : goal.returns-else-op-lt64
unfolding turn_of
returns-else-op-lt64 c = c.with.ensures ∙ sym (if_no _ _ _ (le-ltb _ _ c.if-op-lt64.false))
