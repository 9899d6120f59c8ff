-- `sync_replay::desk::set` meets its contract. Assumes nothing.
use Rattle.laws.specs.Choice.{if_no, if_yes}
use Rattle.sync_replay.specs.Desk.{set_of}
use Rattle.std.proofs.Common.{sym, le-ltb, lt-ltb}
use Rattle.sync_replay.proofs.desk.set.Goals as goal

pub returns-then-n-acc : goal.returns-then-n-acc
unfolding set_of
returns-then-n-acc c = sym (if_yes _ _ _ (lt-ltb _ _ c.if-n-acc.true))

pub returns-else-n-acc : goal.returns-else-n-acc
unfolding set_of
returns-else-n-acc c = sym (if_no _ _ _ (le-ltb _ _ c.if-n-acc.false))
