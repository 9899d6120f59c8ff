-- `receiver_bounds::plain::stage_within` meets its contract. Assumes nothing.
use Rattle.receiver_bounds.specs.Bounds.{stage_within}
use Rattle.laws.specs.Choice.{cases}
use Rattle.receiver_bounds.proofs.plain.stage_within.Goals as goal

pub returns-in-Before : goal.returns-in-Before
unfolding stage_within
returns-in-Before c = search cases

pub returns-in-First : goal.returns-in-First
unfolding stage_within
returns-in-First c = rw (c.in-First.is, c.first_within.ensures)

pub returns-in-Known : goal.returns-in-Known
unfolding stage_within
returns-in-Known c = rw (c.in-Known.is, c.corr_within.ensures)
