-- `receiver_feed::turns::answer` meets its contract. Assumes nothing.
use Rattle.laws.specs.Choice.{cases}
use Rattle.receiver_feed.specs.Turns.{answer_as, answer_of}
use Rattle.receiver_feed.proofs.turns.answer.Goals as goal

pub returns-in-On : goal.returns-in-On
unfolding answer_of answer_as
returns-in-On c = rw (c.in-On.is, c.quiet.ensures)

pub returns-in-Told : goal.returns-in-Told
unfolding answer_of answer_as
returns-in-Told c = rw c.in-Told.is

pub returns-then-t-eq0 : goal.returns-then-t-eq0
unfolding answer_of answer_as
returns-then-t-eq0 c = rw c.in-Refused.is (search cases)

pub returns-else-t-eq0 : goal.returns-else-t-eq0
unfolding answer_of answer_as
returns-else-t-eq0 c = rw (c.in-Refused.is, c.quiet-else-t-eq0.ensures) (search cases)
