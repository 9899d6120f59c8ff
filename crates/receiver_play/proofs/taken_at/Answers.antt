-- `receiver_play::taken_at` meets its contract. Assumes nothing.
use mathlib.Core.Path.{refl}
use Rattle.receiver_play.specs.Play.{taken_at}
use Rattle.receiver_play.proofs.taken_at.Goals as goal

pub returns : goal.returns
unfolding taken_at
returns c = refl
