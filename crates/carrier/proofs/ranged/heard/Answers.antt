-- `carrier::ranged::heard` meets its contract: one word at each return. Assumes nothing.
use Rattle.std.proofs.Common.{⊎_elim}
use Rattle.carrier.specs.Carrier.{word_heard, heard_of}
use Rattle.carrier.proofs.ranged.heard.Goals as goal

pub returns-in-Ssync : goal.returns-in-Ssync
unfolding heard_of word_heard
returns-in-Ssync c = rw c.in-Ssync.is c.ssync.ensures

pub returns-in-Fsync : goal.returns-in-Fsync
unfolding heard_of word_heard
returns-in-Fsync c = ⊎_elim (λ e. rw e) (λ e. rw e) c.in-Fsync.is
