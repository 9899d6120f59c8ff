-- `receiver_state::with::place` meets its contract. Assumes nothing.
use Rattle.laws.specs.Choice.{cases}
use Rattle.receiver_state.proofs.with.place.Goals as goal

pub returns-then-b : goal.returns-then-b
returns-then-b c = search cases

pub returns-else-b : goal.returns-else-b
returns-else-b c = search cases
