-- `receiver_feed::stretch::passed` meets its contract. Assumes nothing.
use Rattle.receiver_feed.specs.Quiet.{passed_by}
use Rattle.receiver_feed.proofs.stretch.passed.Goals as goal

pub returns : goal.returns
unfolding passed_by
returns c = rw (c.phase_on.ensures, c.run_on.ensures, c.nco_on.ensures)
