-- `phase_replay::calls::head` meets its contract. Assumes nothing.
use Rattle.phase_replay.proofs.calls.head.Goals as goal

pub returns : goal.returns
returns c = rw (c.head.ensures, c.head_at-h.ensures, c.phase_at-s.ensures)
