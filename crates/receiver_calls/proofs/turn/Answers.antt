-- `receiver_calls::turn` meets its contract. Assumes nothing.
use Rattle.receiver_calls.specs.Turns.{turn_of}
use Rattle.laws.specs.Choice.{cases}
use Rattle.receiver_calls.proofs.turn.Goals as goal

pub returns-then-op-lt16 : goal.returns-then-op-lt16
unfolding turn_of
returns-then-op-lt16 c = search cases

pub returns-then-op-lt32 : goal.returns-then-op-lt32
unfolding turn_of
returns-then-op-lt32 c = search cases

pub returns-else-op-lt32 : goal.returns-else-op-lt32
unfolding turn_of
returns-else-op-lt32 c = search cases
