-- `frame_replay::call::turn` meets its contract. Assumes nothing.
use Rattle.frame_replay.specs.Replay.{turn_of}
use Rattle.laws.specs.Choice.{if_yes, if_no}
use borrow.Author.Tests.{lt-ltb, le-ltb}
use mathlib.Core.Path.{sym, ◌∙◌}
use Rattle.frame_replay.proofs.call.turn.Goals as goal

pub returns-then-op-lt16 : goal.returns-then-op-lt16
unfolding turn_of
returns-then-op-lt16 c = c.on_eq.ensures ∙ sym (if_yes _ _ _ (lt-ltb _ _ c.if-op-lt16.true))

pub returns-else-op-lt16 : goal.returns-else-op-lt16
unfolding turn_of
returns-else-op-lt16 c = c.aligned.ensures ∙ sym (if_no _ _ _ (le-ltb _ _ c.if-op-lt16.false))
