-- `receiver_play::ranged::one` meets its contract. Assumes nothing.
use Prim.Native.Nat.{◌*◌, ◌+◌}
use Rattle.laws.proofs.Size.{back}
use Rattle.receiver.specs.Feed.{input_at}
use lib.IntN.{pos}
use lib.ListN.{get_or}
use mir.Syntax.{w8}
use Rattle.receiver_play.proofs.ranged.one.Goals as goal

pub returns : goal.returns
unfolding input_at
returns c =
    let x = c.args.x.now in
    let e = rw (back w8 (get_or x (2 * c.args.i) (pos 0)) c.symbol-arg-1.given, back w8 (get_or x (2 * c.args.i + 1) (pos 0)) c.symbol-arg-2-1.given) at c.symbol.ensures in
    (e.0, rw (e.1, e.2, e.3))
