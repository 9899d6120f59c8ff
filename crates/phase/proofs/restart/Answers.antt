-- `phase::restart` meets its contract. Assumes nothing.
use Rattle.laws.specs.Choice.{cases}
use Rattle.phase.specs.Answers.{restart_answer}
use Rattle.phase.proofs.restart.Goals as goal

pub returns-then-in_range : goal.returns-then-in_range
unfolding restart_answer
returns-then-in_range c = rw (← c.in_range.ensures) (search cases)

pub returns-else-in_range : goal.returns-else-in_range
unfolding restart_answer
returns-else-in_range c = rw (← c.in_range.ensures) (search cases)
