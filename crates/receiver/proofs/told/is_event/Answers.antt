-- `receiver::told::is_event` meets its contract. Assumes nothing.
use Rattle.sync_step.specs.Events.{is_nothing}
use Rattle.receiver.proofs.told.is_event.Goals as goal

pub returns-in-Nothing : goal.returns-in-Nothing
unfolding is_nothing
returns-in-Nothing c = rw c.in-Nothing.is

pub returns-in-Head : goal.returns-in-Head
unfolding is_nothing
returns-in-Head c = rw c.in-Head.is

pub returns-in-Period : goal.returns-in-Period
unfolding is_nothing
returns-in-Period c = rw c.in-Period.is

pub returns-in-Lost : goal.returns-in-Lost
unfolding is_nothing
returns-in-Lost c = rw c.in-Lost.is
