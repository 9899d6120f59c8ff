use Rattle.laws.specs.Choice.{cases}
use Rattle.sync_step.specs.Step.{step_of}
use Rattle.sync_step.proofs.ranged.step.Goals as goal

pub returns-then-r-lt23 : goal.returns-then-r-lt23
unfolding step_of
returns-then-r-lt23 c = search cases

pub returns-else-r-lt23 : goal.returns-else-r-lt23
unfolding step_of
returns-else-r-lt23 c = search cases
