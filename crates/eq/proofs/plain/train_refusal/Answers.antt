use Rattle.eq.specs.Answers.{train_refusal}
use Rattle.eq.specs.Eq.{trains_eq}
use Rattle.laws.specs.Choice.{cases}
use Rattle.eq.proofs.plain.train_refusal.Goals as goal

pub returns-then-not-in_range : goal.returns-then-not-in_range
unfolding train_refusal
returns-then-not-in_range c = rw (← c.in_range.ensures) (search cases)

pub returns-then-e : goal.returns-then-e
unfolding train_refusal trains_eq
returns-then-e c = rw (← c.in_range.ensures) (search cases)

pub returns : goal.returns
unfolding train_refusal trains_eq
returns c = rw (← c.in_range.ensures) (search cases)
