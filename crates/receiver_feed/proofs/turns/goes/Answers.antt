-- `receiver_feed::turns::goes` meets its contract. Assumes nothing.
use Rattle.laws.specs.Choice.{cases}
use Rattle.receiver_feed.specs.Turns.{goes_by}
use Rattle.receiver_feed.proofs.turns.goes.Goals as goal

pub returns-then-tells : goal.returns-then-tells
unfolding goes_by
returns-then-tells c = rw (← c.tells.ensures) (search cases)

pub returns-else-tells : goal.returns-else-tells
unfolding goes_by
returns-else-tells c = rw (← c.tells.ensures) (search cases)
