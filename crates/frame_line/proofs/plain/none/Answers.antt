-- `frame_line::plain::none` meets its contract. Assumes nothing.
use mathlib.Core.Path.{refl}
use Rattle.frame_line.specs.Line.{no_metas, blank}
use Rattle.frame_line.proofs.plain.none.Goals as goal

pub returns : goal.returns
unfolding no_metas blank
returns c = refl
