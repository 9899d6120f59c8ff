-- `frame_replay::calls::line` meets its contract. Assumes nothing.
use Rattle.frame_replay.specs.Calls.{line_call}
use Rattle.frame_replay.proofs.calls.line.Goals as goal

pub returns : goal.returns
unfolding line_call
returns c = rw (c.plain.ensures, c.with_line-n.ensures, c.count_put.ensures, c.last_at-last.ensures)
