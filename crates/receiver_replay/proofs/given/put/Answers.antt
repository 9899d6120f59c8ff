-- `receiver_replay::given::put` meets its contract. Assumes nothing.
use Rattle.receiver_replay.proofs.Laws.{put_is}
use mathlib.Core.Path.{refl}
use Rattle.receiver_replay.proofs.given.put.Goals as goal

pub returns : goal.returns
returns c =
    let s = c.args in
    put_is s.p.now s.input.now _ _ _ c.least-at.ensures.0 refl c.copy.ensures
