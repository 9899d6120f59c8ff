-- `phase::refusals::held_past` meets its contract. Assumes nothing.
use mathlib.Core.Path.{◌∙◌}
use Rattle.laws.specs.Choice.{cases}
use Rattle.phase.specs.Answers.{held_past}
use Rattle.phase.proofs.refusals.held_past.Goals as goal

pub returns-then-x-lt9296 : goal.returns-then-x-lt9296
unfolding held_past
returns-then-x-lt9296 c = c.past.ensures ∙ search cases

pub returns-else-x-lt9296 : goal.returns-else-x-lt9296
unfolding held_past
returns-else-x-lt9296 c = search cases
