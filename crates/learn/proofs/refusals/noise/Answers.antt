-- `learn::refusals::noise` meets its contract. Assumes nothing.
use mir.Facts.{to_z-of_z}
use Rattle.laws.specs.Choice.{cases}
use Rattle.learn.specs.Answers.{noise_refusal}
use Rattle.learn.proofs.refusals.noise.Goals as goal

pub returns-then-not-in_range : goal.returns-then-not-in_range
unfolding noise_refusal
returns-then-not-in_range c = rw (← c.in_range.ensures) (search cases)

pub returns-then-best : goal.returns-then-best
unfolding noise_refusal
returns-then-best c =
    let t = rw (to_z-of_z c.ranges.best) at c.if-best.true in
    rw (← c.in_range.ensures) (search cases)

pub returns-then-l-ge67108864 : goal.returns-then-l-ge67108864
unfolding noise_refusal
returns-then-l-ge67108864 c =
    let t = rw (to_z-of_z c.ranges.best) at c.if-best.false in
    rw (← c.in_range.ensures) (search cases)

pub returns : goal.returns
unfolding noise_refusal
returns c =
    let t = rw (to_z-of_z c.ranges.best) at c.if-best.false in
    rw (← c.in_range.ensures) (search cases)
