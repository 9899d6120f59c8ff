-- `receiver_feed::turns::stopped` meets its contract. Assumes nothing.
use mathlib.Core.Path.{refl}
use Rattle.receiver_feed.specs.Turns.{stopped_at}
use Rattle.receiver_feed.proofs.turns.stopped.Goals as goal

pub returns : goal.returns
unfolding stopped_at
returns c = refl
