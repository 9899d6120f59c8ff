-- `phase_replay::calls::restart` meets its contract. Assumes nothing.
use Rattle.phase_replay.specs.Calls.{restart_call}
use Rattle.phase_replay.proofs.calls.restart.Goals as goal

pub returns : goal.returns
unfolding restart_call
returns c = rw (c.held.ensures, c.restart.ensures, c.phase_at-s.ensures)
