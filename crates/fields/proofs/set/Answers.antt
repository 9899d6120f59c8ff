-- `fields::set` meets its contract. Assumes nothing.
use Rattle.fields.specs.Fields.{set_by}
use Rattle.laws.specs.Choice.{cases}
use Rattle.fields.proofs.set.Goals as goal

pub returns-then-k-l : goal.returns-then-k-l
unfolding set_by
returns-then-k-l g c = rw c.of_bits.ensures (search cases)

pub returns-else-k-l : goal.returns-else-k-l
unfolding set_by
returns-else-k-l g c = search cases
