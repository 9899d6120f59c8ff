-- `receiver_symbol::heads::tuned` meets its contract. Assumes nothing.
use Rattle.receiver_symbol.specs.Parts.{TuneOk}
use Rattle.carrier.specs.Carrier.{heard_of, word_heard}
use mathlib.Core.Path.{subst}
use Rattle.receiver_symbol.proofs.heads.tuned.Goals as goal

pub heard-x-requires : goal.heard-x-requires
heard-x-requires c = subst (TuneOk c.args.n) c.in-Ssync.is c.requires

pub returns-in-Ssync : goal.returns-in-Ssync
returns-in-Ssync c = rw c.heard-x.ensures

pub returns-in-Fsync : goal.returns-in-Fsync
unfolding heard_of word_heard
returns-in-Fsync c = rw c.in-Fsync.is

pub returns-in-NotFsync : goal.returns-in-NotFsync
unfolding heard_of word_heard
returns-in-NotFsync c = rw c.in-NotFsync.is
