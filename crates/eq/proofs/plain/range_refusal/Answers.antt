use Rattle.eq.specs.Answers.{range_refusal}
use Rattle.laws.specs.Choice.{cases}
use Rattle.eq.proofs.plain.range_refusal.Goals as goal

pub returns-then-in_range : goal.returns-then-in_range
unfolding range_refusal
returns-then-in_range c = rw (← c.in_range.ensures) (search cases)

pub returns-else-in_range : goal.returns-else-in_range
unfolding range_refusal
returns-else-in_range c = rw (← c.in_range.ensures) (search cases)
