-- `receiver_state::put::part` meets its contract. Assumes nothing.
use Rattle.receiver_state.specs.Put.{part_put}
use Rattle.laws.specs.Choice.{cases}
use Rattle.receiver_state.proofs.put.part.Goals as goal

pub returns-in-1 : goal.returns-in-1
unfolding part_put
returns-in-1 c = rw (c.in-1.is, c.carrier.ensures) (search cases)

pub returns-in-3 : goal.returns-in-3
unfolding part_put
returns-in-3 c = rw (c.in-3.is, c.phase.ensures) (search cases)

pub returns-in-5 : goal.returns-in-5
unfolding part_put
returns-in-5 c = rw (c.in-5.is, c.run.ensures) (search cases)

pub returns-in-7 : goal.returns-in-7
unfolding part_put
returns-in-7 c = rw (c.in-7.is, c.heads.ensures) (search cases)

pub returns-in-9 : goal.returns-in-9
unfolding part_put
returns-in-9 c = rw (c.in-9.is, c.window.ensures) (search cases)

pub returns-in-11 : goal.returns-in-11
unfolding part_put
returns-in-11 c = rw (c.in-11.is, c.waiting.ensures) (search cases)

pub returns-in-13 : goal.returns-in-13
unfolding part_put
returns-in-13 c = rw (c.in-13.is, c.points.ensures) (search cases)

pub returns-in_default : goal.returns-in_default
unfolding part_put
returns-in_default c = search cases
