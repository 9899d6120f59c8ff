-- `frame_line::plain::meta_in_range` meets its contract. Assumes nothing.
use mathlib.Core.Path.{refl}
use Rattle.frame_line.specs.Ranges.{meta_in_range}
use Rattle.frame_line.proofs.plain.meta_in_range.Goals as goal

pub returns : goal.returns
unfolding meta_in_range
returns c = refl
