-- `receiver_feed::quiet::up_to` meets its contract. Assumes nothing.
use Rattle.laws.specs.Choice.{cases}
use Rattle.receiver_feed.proofs.quiet.up_to.Goals as goal

pub returns-then-tally_within : goal.returns-then-tally_within
returns-then-tally_within c = rw (← c.tally_within.ensures) (search cases)

pub returns-else-tally_within : goal.returns-else-tally_within
returns-else-tally_within c = rw (← c.tally_within.ensures) (search cases)
