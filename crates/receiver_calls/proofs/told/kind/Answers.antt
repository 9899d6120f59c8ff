-- `receiver_calls::told::kind` meets its contract. Assumes nothing.
use Rattle.receiver_calls.specs.Told.{kind_of}
use Rattle.receiver_calls.proofs.told.kind.Goals as goal

pub returns-in-Nothing : goal.returns-in-Nothing
unfolding kind_of
returns-in-Nothing c = rw c.in-Nothing.is

pub returns-in-Head : goal.returns-in-Head
unfolding kind_of
returns-in-Head c = rw c.in-Head.is

pub returns-in-Period : goal.returns-in-Period
unfolding kind_of
returns-in-Period c = rw c.in-Period.is

pub returns-in-Lost : goal.returns-in-Lost
unfolding kind_of
returns-in-Lost c = rw c.in-Lost.is
