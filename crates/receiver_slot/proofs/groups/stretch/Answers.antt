-- `receiver_slot::groups::stretch` meets its contract. Assumes nothing.
use Rattle.laws.specs.Choice.{cases}
use Rattle.receiver_slot.specs.Steps.{stretch_of}
use Rattle.receiver_slot.proofs.groups.stretch.Goals as goal

pub returns-then-g-eq0 : goal.returns-then-g-eq0
unfolding stretch_of
returns-then-g-eq0 c = search cases

pub returns-else-g-eq0 : goal.returns-else-g-eq0
unfolding stretch_of
returns-else-g-eq0 c = search cases
