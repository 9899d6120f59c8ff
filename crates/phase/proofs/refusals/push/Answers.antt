-- `phase::refusals::push` meets its contract: one case at each return. Assumes nothing.
use Rattle.laws.specs.Choice.{cases}
use Rattle.phase.specs.Answers.{push_refusal}
use Rattle.phase.proofs.refusals.push.Goals as goal

pub returns-then-len-ne18592 : goal.returns-then-len-ne18592
unfolding push_refusal
returns-then-len-ne18592 c = search cases

pub returns-then-not-in_range : goal.returns-then-not-in_range
unfolding push_refusal
returns-then-not-in_range c = rw (← c.in_range.ensures) (search cases)

pub returns-then-past_end : goal.returns-then-past_end
unfolding push_refusal
returns-then-past_end c = rw (← c.in_range.ensures, ← c.past_end.ensures) (search cases)

pub returns-else-past_end : goal.returns-else-past_end
unfolding push_refusal
returns-else-past_end c = rw (← c.in_range.ensures, ← c.past_end.ensures) (search cases)
