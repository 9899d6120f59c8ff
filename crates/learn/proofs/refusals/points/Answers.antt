-- `learn::refusals::points` meets its contract. Assumes nothing.
use Rattle.laws.specs.Choice.{cases}
use Rattle.learn.specs.Answers.{points_refusal}
use Rattle.learn.proofs.refusals.points.Goals as goal

pub returns-then-len-bits : goal.returns-then-len-bits
unfolding points_refusal
returns-then-len-bits c = search cases

pub returns-then-not-in_range : goal.returns-then-not-in_range
unfolding points_refusal
returns-then-not-in_range c = rw (← c.in_range.ensures) (search cases)

pub returns : goal.returns
unfolding points_refusal
returns c = rw (← c.in_range.ensures) (search cases)
