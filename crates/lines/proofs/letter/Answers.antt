-- `lines::letter` meets its contract. Assumes nothing.
use Rattle.lines.specs.Lines.{letter_of}
use Rattle.lines.proofs.letter.Goals as goal

pub returns-in-Ssync : goal.returns-in-Ssync
unfolding letter_of
returns-in-Ssync c = rw c.in-Ssync.is

pub returns-in-Fsync : goal.returns-in-Fsync
unfolding letter_of
returns-in-Fsync c = rw c.in-Fsync.is

pub returns-in-NotFsync : goal.returns-in-NotFsync
unfolding letter_of
returns-in-NotFsync c = rw c.in-NotFsync.is
