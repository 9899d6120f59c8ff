-- `phase::refusals::head` meets its contract: one case at each return. Assumes nothing.
use Rattle.laws.specs.Choice.{cases}
use Rattle.phase.specs.Answers.{head_refusal}
use Rattle.phase.proofs.refusals.head.Goals as goal

pub returns-then-not-in_range : goal.returns-then-not-in_range
unfolding head_refusal
returns-then-not-in_range c = rw (← c.in_range.ensures) (search cases)

pub returns : goal.returns
unfolding head_refusal
returns c = rw (c.head.ensures, ← c.in_range.ensures) (search cases)
