use Rattle.laws.specs.Choice.{cases}
use Rattle.receiver_slot.specs.Slot.{no_run}
use Rattle.receiver_slot.specs.Steps.{tail_of}
use Rattle.receiver_slot.proofs.ranged.tail.Goals as goal

pub returns-then-w-eq0 : goal.returns-then-w-eq0
unfolding tail_of no_run
returns-then-w-eq0 c = search cases

pub returns-else-w-eq0 : goal.returns-else-w-eq0
unfolding tail_of no_run
returns-else-w-eq0 c = search cases
