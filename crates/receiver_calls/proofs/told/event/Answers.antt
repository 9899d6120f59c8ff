-- `receiver_calls::told::event` meets its contract. Assumes nothing.
use Rattle.receiver_calls.specs.Told.{event_told}
use Rattle.receiver_calls.proofs.told.event.Goals as goal

pub returns-in-Nothing : goal.returns-in-Nothing
unfolding event_told
returns-in-Nothing c = rw (c.in-Nothing.is, c.four.ensures)

pub returns-in-Head : goal.returns-in-Head
unfolding event_told
returns-in-Head c = rw (c.in-Head.is, c.head.ensures)

pub returns-in-Period : goal.returns-in-Period
unfolding event_told
returns-in-Period c = rw (c.in-Period.is, c.period.ensures)

pub returns-in-Lost : goal.returns-in-Lost
unfolding event_told
returns-in-Lost c = rw (c.in-Lost.is, c.four-in-Lost.ensures)
