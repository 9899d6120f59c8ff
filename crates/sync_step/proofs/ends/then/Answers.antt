use Rattle.laws.specs.Choice.{cases}
use Rattle.sync_step.specs.Events.{then_of}
use Rattle.sync_step.proofs.ends.then.Goals as goal

pub returns-then-is_nothing : goal.returns-then-is_nothing
unfolding then_of
returns-then-is_nothing c = rw (← c.is_nothing.ensures) (search cases)

pub returns-then-is_nothing-2 : goal.returns-then-is_nothing-2
unfolding then_of
returns-then-is_nothing-2 c = rw (← c.is_nothing.ensures, ← c.is_nothing-else-is_nothing.ensures) (search cases)

pub returns-else-is_nothing-2 : goal.returns-else-is_nothing-2
unfolding then_of
returns-else-is_nothing-2 c = rw (← c.is_nothing.ensures, ← c.is_nothing-else-is_nothing.ensures) (search cases)
