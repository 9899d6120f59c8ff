-- `receiver_symbol::heads::is_lost` meets its contract. Assumes nothing.
use Rattle.receiver.specs.Heads.{is_lost}
use Rattle.receiver_symbol.proofs.heads.is_lost.Goals as goal

pub returns-in-Nothing : goal.returns-in-Nothing
unfolding is_lost
returns-in-Nothing c = rw c.in-Nothing.is

pub returns-in-Head : goal.returns-in-Head
unfolding is_lost
returns-in-Head c = rw c.in-Head.is

pub returns-in-Period : goal.returns-in-Period
unfolding is_lost
returns-in-Period c = rw c.in-Period.is

pub returns-in-Lost : goal.returns-in-Lost
unfolding is_lost
returns-in-Lost c = rw c.in-Lost.is
