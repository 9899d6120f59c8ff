-- Both tests. Assumes nothing.
use Rattle.std.proofs.Common.{sym}
use Rattle.bench_text.proofs.Pages.{more_none, more_some}
use Rattle.bench_text.proofs.ranged.more.Goals as goal

pub returns-then-room-lt256 : goal.returns-then-room-lt256
returns-then-room-lt256 c = let a = c.args in sym (more_none a.n a.i a.room a.place c.if-room-lt256.true)

pub returns-else-room-lt256 : goal.returns-else-room-lt256
returns-else-room-lt256 c = let a = c.args in rw c.from.ensures (more_some a.n a.i a.room a.place c.if-room-lt256.false)
