-- `frame_wire::last_at` meets its contract. Assumes nothing.
use Rattle.fields.proofs.Laws.{unless}
use Rattle.frame_wire.specs.Line.{last_of}
use Rattle.frame_wire.proofs.last_at.Goals as goal

pub returns : goal.returns
unfolding last_of
returns c = rw c.then_some.ensures (unless _ _)
