-- `eq_train::ranges::right_in_range` meets its contract. Assumes nothing.
use mathlib.Core.Path.{◌≡◌, refl, sym, ◌∙◌}
use Prim.Native.Nat.{◌+◌, ◌*◌}
use native.Mathlib.Omega.{arith}
use mir.Syntax.{w64}
use Rattle.laws.proofs.Size.{back}
use Rattle.eq_train.specs.Train.{nth}
use Rattle.eq_train.proofs.Tested.{right_next, right_end}
use Rattle.eq_train.proofs.ranges.right_in_range.Goals as goal

pub loop-r-init : goal.loop-r-init
loop-r-init c = (omega arith, refl)

pub loop-r-preserved : goal.loop-r-preserved
loop-r-preserved c =
    let S = c.args in
    let L = c.loop-r in
    let p = S.p.now in
    let t = c.loop-r-test.true in
    let f = rw (back w64 (nth p (2 * L.r)) c.product_in_range-arg-1.given, back w64 (nth p (2 * L.r + 1)) c.product_in_range-arg-in-loop-r-1.given) at c.product_in_range-one.ensures in
    (omega (arith, t), right_next S.n p L.r L.all c.product_in_range-one.result t f ∙ L.invariant.1)

pub returns : goal.returns
returns c =
    let L = c.loop-r in
    let S = c.args in
    let e : L.r ≡ 11 = omega (arith, L.invariant.0, c.loop-r-test) in
    sym (right_end S.n S.p.now L.all) ∙ rw e at L.invariant.1
