use Rattle.eq.specs.Eq.{loaded_eq}
use mathlib.Core.Path.{refl}
use Rattle.eq.proofs.plain.loaded.Goals as goal

pub returns : goal.returns
unfolding loaded_eq
returns c = refl
