-- `receiver::refusals::restart` meets its contract. Assumes nothing.
use Rattle.receiver.specs.Answers.{restart_refusal}
use Rattle.laws.specs.Choice.{cases}
use Rattle.receiver.specs.Symbol.{next_of}
use Rattle.receiver.proofs.refusals.restart.Goals as goal

pub returns-then-len-ne9296 : goal.returns-then-len-ne9296
unfolding restart_refusal
returns-then-len-ne9296 c = search cases

pub returns-then-not-receiver_within : goal.returns-then-not-receiver_within
unfolding restart_refusal
returns-then-not-receiver_within c = rw (← c.receiver_within.ensures) (search cases)

pub returns-then-before : goal.returns-then-before
unfolding restart_refusal next_of
returns-then-before c = rw (← c.receiver_within.ensures, ← c.before-2.ensures) (search cases)

pub returns : goal.returns
unfolding restart_refusal next_of
returns c = rw (← c.receiver_within.ensures, ← c.before-2.ensures) (search cases)
