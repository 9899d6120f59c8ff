-- `sync_replay::desk::put` meets its contract. Assumes nothing.
use Rattle.laws.specs.Choice.{if_no, if_yes}
use Rattle.sync_replay.specs.Desk.{put_of}
use Rattle.std.proofs.Common.{sym, le-ltb, lt-ltb}
use Rattle.sync_replay.proofs.desk.put.Goals as goal

pub returns-then-n-lt192 : goal.returns-then-n-lt192
unfolding put_of
returns-then-n-lt192 c = sym (if_yes _ _ _ (lt-ltb _ _ c.if-n-lt192.true))

pub returns-else-n-lt192 : goal.returns-else-n-lt192
unfolding put_of
returns-else-n-lt192 c = sym (if_no _ _ _ (le-ltb _ _ c.if-n-lt192.false))
