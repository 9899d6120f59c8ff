-- `in_force::refusals::next` meets its contract. Assumes nothing.
use Rattle.laws.specs.Choice.{cases}
use Rattle.in_force.specs.Answers.{next_refusal}
use Rattle.in_force.proofs.refusals.next.Goals as goal

pub returns-then-len-ne124 : goal.returns-then-len-ne124
unfolding next_refusal
returns-then-len-ne124 c = search cases

pub returns-then-not-in_range : goal.returns-then-not-in_range
unfolding next_refusal
returns-then-not-in_range c = rw (← c.in_range.ensures) (search cases)

pub returns-then-not-in_range-2 : goal.returns-then-not-in_range-2
unfolding next_refusal
returns-then-not-in_range-2 c = rw (← c.in_range.ensures, ← c.in_range-2.ensures) (search cases)

pub returns : goal.returns
unfolding next_refusal
returns c = rw (← c.in_range.ensures, ← c.in_range-2.ensures) (search cases)
