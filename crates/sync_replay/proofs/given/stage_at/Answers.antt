-- `sync_replay::given::stage_at` meets its contract. Assumes nothing.
use Rattle.slot_wire.specs.Slots.{corr_of}
use Rattle.sync_replay.specs.Given.{stage_of}
use Rattle.sync_replay.proofs.given.stage_at.Goals as goal

pub returns : goal.returns
unfolding stage_of corr_of
returns c = rw (c.stage.ensures, c.corr-3.ensures, c.corr-2.ensures, c.corr.ensures, c.wide.ensures)
