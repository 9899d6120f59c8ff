-- `phase_replay::calls::hear` meets its contract. Assumes nothing.
use Rattle.phase_replay.specs.Calls.{hear_call}
use Rattle.phase_replay.proofs.calls.hear.Goals as goal

pub returns : goal.returns
unfolding hear_call
returns c = rw (c.heard.ensures, c.head.ensures, c.head_at-h.ensures, c.nco_at-n.ensures)
