-- `sync_replay::given::record_at` meets its contract. Assumes nothing.
use Rattle.sync_replay.specs.Given.{record_of}
use Rattle.sync_replay.proofs.given.record_at.Goals as goal

pub returns : goal.returns
unfolding record_of
returns c = rw (c.record.ensures, c.wide.ensures)
