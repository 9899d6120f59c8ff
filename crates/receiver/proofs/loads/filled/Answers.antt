-- `receiver::loads::filled` meets its contract. Assumes nothing.
use Rattle.receiver.proofs.Laws.{filled_end, filled_next}
use Prim.Native.Nat.{◌<◌, ◌^◌}
use Rattle.laws.proofs.Size.{back}
use lib.IntN.{pos}
use lib.ListN.{get_or, length}
use lib.Signed.{mag}
use mathlib.Core.Path.{◌∙◌, ◌≡◌, refl}
use mir.Syntax.{w16}
use native.Mathlib.Omega.{arith}
use Rattle.receiver.proofs.loads.filled.Goals as goal

pub loop-k-init : goal.loop-k-init
loop-k-init c = (omega arith, refl)

pub loop-k-preserved : goal.loop-k-preserved
loop-k-preserved c =
    let l = c.args.points.now in
    let k = c.loop-k.k in
    let x = get_or l k (pos 0) in
    let s : mag x < 2 ^ 15 = search in
    let t : k < length l = c.loop-k-test.true in
    (omega (arith, t), rw (back w16 x s, c.loop-k.invariant.1) (filled_next l k t c.requires))

pub returns : goal.returns
returns c =
    let l = c.args.points.now in
    let e : c.loop-k.k ≡ length l = omega (arith, c.loop-k.invariant.0, c.loop-k-test) in
    c.loop-k.invariant.1 ∙ rw e (filled_end l)
