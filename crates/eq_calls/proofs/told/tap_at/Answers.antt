-- `eq_calls::told::tap_at` meets its contract. Assumes nothing.
use Rattle.laws.specs.Choice.{cases}
use Rattle.eq_calls.specs.Told.{tap_at}
use Rattle.eq_calls.proofs.told.tap_at.Goals as goal

pub returns-then-k : goal.returns-then-k
unfolding tap_at
returns-then-k c = rw c.bits_at.ensures (search cases)

pub returns-else-k : goal.returns-else-k
unfolding tap_at
returns-else-k c = search cases
