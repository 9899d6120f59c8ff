-- `frame_line::plain::move_up` meets its contract. Assumes nothing.
use mathlib.Core.Path.{refl}
use Rattle.frame_line.specs.Line.{moved}
use Rattle.frame_line.proofs.plain.move_up.Goals as goal

pub returns : goal.returns
unfolding moved
returns c = refl
