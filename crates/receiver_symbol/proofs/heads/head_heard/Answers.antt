-- `receiver_symbol::heads::head_heard` meets its contract. Assumes nothing.
use Rattle.receiver.specs.Heads.{event_heard}
use Rattle.receiver_symbol.proofs.heads.head_heard.Goals as goal

pub tuned-requires : goal.tuned-requires
tuned-requires c = c.requires.nco

pub due-requires : goal.due-requires
due-requires c = (c.requires.phase, c.requires.head)

pub returns : goal.returns
unfolding event_heard
returns c = rw (c.or_due.ensures, c.due.ensures, c.begun.ensures, c.tuned.ensures)
