-- `frame::ranged::joined_to` meets its contract. Assumes nothing.
use Rattle.laws.specs.Choice.{cases}
use Rattle.frame.specs.Align.{joined_to}
use Rattle.frame.proofs.ranged.joined_to.Goals as goal

pub returns-then-gap : goal.returns-then-gap
unfolding joined_to
returns-then-gap c = rw (c.restarted.ensures, ← c.gap.ensures) (search cases)

pub returns-else-gap : goal.returns-else-gap
unfolding joined_to
returns-else-gap c = rw (← c.gap.ensures) (search cases)
