use Rattle.laws.specs.Choice.{cases}
use Rattle.sync.specs.Sync.{stored_of}
use Rattle.sync.proofs.ranged.store.Goals as goal

pub returns-in-Nothing : goal.returns-in-Nothing
unfolding stored_of
returns-in-Nothing c = search cases

pub returns-in-One : goal.returns-in-One
unfolding stored_of
returns-in-One c = rw c.in-One.is

pub returns-in-Zeros : goal.returns-in-Zeros
unfolding stored_of
returns-in-Zeros c = rw c.in-Zeros.is c.clear.ensures
