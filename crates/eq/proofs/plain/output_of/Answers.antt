use Rattle.eq.specs.Eq.{output_at}
use Rattle.laws.specs.Choice.{cases}
use Rattle.eq.proofs.plain.output_of.Goals as goal

pub returns-then-e-gt5 : goal.returns-then-e-gt5
unfolding output_at
returns-then-e-gt5 c = rw c.output.ensures (search cases)

pub returns-else-e-gt5 : goal.returns-else-e-gt5
unfolding output_at
returns-else-e-gt5 c = search cases
