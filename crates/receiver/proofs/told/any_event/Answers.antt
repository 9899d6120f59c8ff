-- `receiver::told::any_event` meets its contract. Assumes nothing.
use Rattle.receiver.specs.Feed.{any_event}
use Rattle.receiver.proofs.told.any_event.Goals as goal

pub returns : goal.returns
unfolding any_event
returns c = rw (c.is_event.ensures, c.is_event-2.ensures, c.is_event-3.ensures)
