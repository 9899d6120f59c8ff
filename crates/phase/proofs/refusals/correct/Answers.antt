-- `phase::refusals::correct` meets its contract: one case at each return. Assumes nothing.
use Rattle.laws.specs.Choice.{cases}
use Rattle.phase.specs.Answers.{correct_refusal}
use Rattle.phase.proofs.refusals.correct.Goals as goal

pub returns-then-store-ne18592 : goal.returns-then-store-ne18592
unfolding correct_refusal
returns-then-store-ne18592 c = search cases

pub returns-then-table-ne1024 : goal.returns-then-table-ne1024
unfolding correct_refusal
returns-then-table-ne1024 c = search cases

pub returns-then-not-whole_in_range-j : goal.returns-then-not-whole_in_range-j
unfolding correct_refusal
returns-then-not-whole_in_range-j c = rw (← c.whole_in_range.ensures) (search cases)

pub returns-then-place_past : goal.returns-then-place_past
unfolding correct_refusal
returns-then-place_past c = rw (← c.whole_in_range.ensures, ← c.place_past.ensures) (search cases)

pub returns : goal.returns
unfolding correct_refusal
returns c = rw (← c.whole_in_range.ensures, ← c.place_past.ensures) (search cases)
