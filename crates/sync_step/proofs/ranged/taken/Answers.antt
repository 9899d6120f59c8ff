use Rattle.laws.specs.Choice.{cases}
use Rattle.sync_step.specs.Step.{reading_of, taken_of}
use Rattle.sync_step.proofs.ranged.taken.Goals as goal

pub returns-then-locked_at : goal.returns-then-locked_at
unfolding taken_of reading_of
returns-then-locked_at c = rw (c.read.ensures, ← c.locked_at.ensures) (search cases)

pub returns-else-locked_at : goal.returns-else-locked_at
unfolding taken_of
returns-else-locked_at c = rw (← c.locked_at.ensures) (search cases)
