-- `receiver::told::tells` meets its contract. Assumes nothing.
use Rattle.receiver.specs.Feed.{tells_any}
use Rattle.receiver.proofs.told.tells.Goals as goal

pub returns : goal.returns
unfolding tells_any
returns c = rw c.any_event.ensures
