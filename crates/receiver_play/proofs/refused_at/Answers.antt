-- `receiver_play::refused_at` meets its contract. Assumes nothing.
use mathlib.Core.Path.{refl}
use Rattle.receiver_play.specs.Play.{refused_at}
use Rattle.receiver_play.proofs.refused_at.Goals as goal

pub returns : goal.returns
unfolding refused_at
returns c = refl
