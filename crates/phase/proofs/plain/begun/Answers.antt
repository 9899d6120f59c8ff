-- `phase::plain::begun` meets its contract. Assumes nothing.
use mathlib.Core.Path.{refl}
use Rattle.phase.specs.Phase.{begun_of}
use Rattle.phase.proofs.plain.begun.Goals as goal

pub returns : goal.returns
unfolding begun_of
returns c = refl
