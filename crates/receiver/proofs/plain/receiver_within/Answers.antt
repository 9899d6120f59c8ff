-- `receiver::plain::receiver_within` meets its contract. Assumes nothing.
use Rattle.receiver.specs.Ranges.{receiver_in_range}
use Rattle.receiver.proofs.plain.receiver_within.Goals as goal

pub returns : goal.returns
unfolding receiver_in_range
returns c = rw (c.front_within.ensures, c.back_within.ensures, c.points_within.ensures)
