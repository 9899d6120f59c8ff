-- `receiver::plain::range_refusal` meets its contract. Assumes nothing.
use Rattle.receiver.specs.Answers.{range_refusal}
use Rattle.laws.specs.Choice.{cases}
use Rattle.receiver.proofs.plain.range_refusal.Goals as goal

pub returns-then-receiver_within : goal.returns-then-receiver_within
unfolding range_refusal
returns-then-receiver_within c = rw (← c.receiver_within.ensures) (search cases)

pub returns-else-receiver_within : goal.returns-else-receiver_within
unfolding range_refusal
returns-else-receiver_within c = rw (← c.receiver_within.ensures) (search cases)
