-- `learn::refusals::pilot` meets its contract. Assumes nothing.
use Rattle.laws.specs.Choice.{cases}
use Rattle.learn.specs.Answers.{pilot_refusal}
use Rattle.learn.proofs.Laws.{good-bits}
use Rattle.learn.proofs.refusals.pilot.Goals as goal

pub place-requires : goal.place-requires
place-requires c = good-bits c.args.bits c.if-bits.false

pub returns-then-bits : goal.returns-then-bits
unfolding pilot_refusal
returns-then-bits c = search cases

pub returns-then-not-in_range : goal.returns-then-not-in_range
unfolding pilot_refusal
returns-then-not-in_range c = rw (← c.in_range.ensures) (search cases)

pub returns-then-t-gt31 : goal.returns-then-t-gt31
unfolding pilot_refusal
returns-then-t-gt31 c = rw (← c.in_range.ensures) (search cases)

pub returns-then-l-place-ge67108864 : goal.returns-then-l-place-ge67108864
unfolding pilot_refusal
returns-then-l-place-ge67108864 c = rw (← c.in_range.ensures, ← c.place.ensures.0) (search cases)

pub returns : goal.returns
unfolding pilot_refusal
returns c = rw (← c.in_range.ensures, ← c.place.ensures.0) (search cases)
