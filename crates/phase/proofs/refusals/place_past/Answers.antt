-- `phase::refusals::place_past` meets its contract. Assumes nothing.
use Rattle.phase.specs.Answers.{place_past}
use Rattle.phase.proofs.refusals.place_past.Goals as goal

pub returns : goal.returns
unfolding place_past
returns c = rw c.past.ensures
