-- `frame_line::plain::meta_of` meets its contract. Assumes nothing.
use mathlib.Core.Path.{refl}
use Rattle.frame_line.specs.Line.{meta_of}
use Rattle.frame_line.proofs.plain.meta_of.Goals as goal

pub returns : goal.returns
unfolding meta_of
returns c = refl
