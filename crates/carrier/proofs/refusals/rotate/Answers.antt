-- `carrier::refusals::rotate` meets its contract: one case at each return. Assumes nothing.
use Rattle.laws.specs.Choice.{cases}
use Rattle.carrier.specs.Answers.{rotate_refusal}
use Rattle.carrier.proofs.refusals.rotate.Goals as goal

pub returns-then-len-ne1024 : goal.returns-then-len-ne1024
unfolding rotate_refusal
returns-then-len-ne1024 c = search cases

pub returns-then-in_range : goal.returns-then-in_range
unfolding rotate_refusal
returns-then-in_range c = rw (← c.in_range.ensures) (search cases)

pub returns-else-in_range : goal.returns-else-in_range
unfolding rotate_refusal
returns-else-in_range c = rw (← c.in_range.ensures) (search cases)
