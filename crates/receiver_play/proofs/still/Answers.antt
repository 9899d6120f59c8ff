-- `receiver_play::still` meets its contract. Assumes nothing.
use Rattle.receiver_play.specs.Play.{quiet}
use Rattle.receiver_play.proofs.still.Goals as goal

pub returns : goal.returns
unfolding quiet
returns c = rw (c.no_events.ensures, c.no_runs.ensures)
