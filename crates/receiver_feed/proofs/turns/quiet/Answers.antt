-- `receiver_feed::turns::quiet` meets its contract. Assumes nothing.
use Rattle.receiver_feed.specs.Turns.{quiet_fed}
use Rattle.receiver_feed.proofs.turns.quiet.Goals as goal

pub returns : goal.returns
unfolding quiet_fed
returns c = rw (c.no_events.ensures, c.no_runs.ensures)
