-- `phase_replay::calls::nco_restart` meets its contract. Assumes nothing.
use Rattle.phase_replay.specs.Calls.{nco_restart_call}
use Rattle.phase_replay.proofs.calls.nco_restart.Goals as goal

pub returns : goal.returns
unfolding nco_restart_call
returns c = rw (c.restarted.ensures, c.restart.ensures, c.nco_at-n.ensures)
