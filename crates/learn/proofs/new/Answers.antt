-- `learn::new` meets its contract. Assumes nothing.
use mathlib.Core.Path.{refl}
use Rattle.learn.specs.Learning.{new_learn}
use Rattle.learn.proofs.new.Goals as goal

pub returns : goal.returns
unfolding new_learn
returns c = refl
