-- `receiver_symbol::heads::or_due` meets its contract. Assumes nothing.
use Rattle.receiver.specs.Heads.{or_due}
use Rattle.receiver_symbol.proofs.heads.or_due.Goals as goal

pub returns-in-None : goal.returns-in-None
unfolding or_due
returns-in-None c = rw c.in-None.is

pub returns-in-Some : goal.returns-in-Some
unfolding or_due
returns-in-Some c = rw c.in-Some.is
