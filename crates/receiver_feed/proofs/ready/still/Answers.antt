-- `receiver_feed::ready::still` meets its contract. Assumes nothing.
use mathlib.Core.Path.{sym}
use Rattle.receiver_feed.proofs.ready.still.Goals as goal

pub returns-then-used-eq0 : goal.returns-then-used-eq0
returns-then-used-eq0 c = sym (c.requires c.if-used-eq0.true)
