-- `receiver::loads::ended` meets its contract. Assumes nothing.
use Rattle.receiver.specs.Answers.{ended_of}
use Rattle.laws.specs.Choice.{cases}
use Rattle.receiver.proofs.loads.ended.Goals as goal

pub returns-then-e : goal.returns-then-e
unfolding ended_of
returns-then-e c = rw (c.with_eq.ensures, c.with_sums.ensures, c.new.ensures) (search cases)

pub returns-else-e : goal.returns-else-e
unfolding ended_of
returns-else-e c = search cases
