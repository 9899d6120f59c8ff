-- `receiver_feed::ready::refusal` meets its contract. Assumes nothing.
use Rattle.laws.specs.Choice.{when◌then◌else◌}
use Rattle.receiver.specs.Answers.{range_refusal}
use Rattle.receiver_symbol.specs.Parts.{state_refusal}
use Rattle.receiver_feed.proofs.ready.refusal.Goals as goal

pub returns-then-not-tally_within : goal.returns-then-not-tally_within
unfolding state_refusal range_refusal when◌then◌else◌
returns-then-not-tally_within c = rw (c.requires, ← c.tally_within.ensures, c.if-not-tally_within.true)

pub returns : goal.returns
unfolding state_refusal range_refusal when◌then◌else◌
returns c = rw (c.next.ensures, c.requires, ← c.tally_within.ensures, c.if-not-tally_within.false)
