-- `in_force::plain::sets_refusal` meets its contract. Assumes nothing.
use Rattle.laws.specs.Choice.{cases}
use Rattle.in_force.specs.Answers.{sets_refusal}
use Rattle.in_force.proofs.plain.sets_refusal.Goals as goal

pub returns-then-learned-nominal : goal.returns-then-learned-nominal
unfolding sets_refusal
returns-then-learned-nominal c = search cases

pub returns : goal.returns
unfolding sets_refusal
returns c = search cases
