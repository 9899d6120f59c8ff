-- `frame_replay::calls::no_meta` meets its contract. Assumes nothing.
use Rattle.frame_line.specs.Line.{no_metas}
use Rattle.frame_replay.specs.Calls.{no_meta}
use Rattle.frame_replay.proofs.calls.no_meta.Goals as goal

pub returns : goal.returns
unfolding no_meta no_metas
returns c = rw c.none-w.ensures
