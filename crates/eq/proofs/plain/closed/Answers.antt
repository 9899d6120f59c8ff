use Rattle.eq.specs.Eq.{closed_eq}
use Rattle.laws.specs.Choice.{cases}
use Rattle.eq.proofs.plain.closed.Goals as goal

pub returns-then-e : goal.returns-then-e
unfolding closed_eq
returns-then-e c = rw (c.with_sums.ensures, c.new.ensures) (search cases)

pub returns-else-e : goal.returns-else-e
unfolding closed_eq
returns-else-e c = search cases
