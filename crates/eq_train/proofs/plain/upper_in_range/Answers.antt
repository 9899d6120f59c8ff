-- `eq_train::plain::upper_in_range` meets its contract. Assumes nothing.
use mathlib.Core.Path.{◌≡◌, refl, sym, ◌∙◌}
use native.Mathlib.Omega.{arith}
use Rattle.eq_train.proofs.Places.{first-place, row_in, row_after}
use Rattle.eq_train.proofs.Tested.{upper_next, upper_end}
use Rattle.eq_train.proofs.plain.upper_in_range.Goals as goal

pub loop-r-init : goal.loop-r-init
loop-r-init c = (omega arith, omega (arith, first-place), refl)

pub row_in_range-one-requires : goal.row_in_range-one-requires
row_in_range-one-requires c =
    let L = c.loop-r in
    let t = c.loop-r-test.true in
    (t, L.invariant.1, omega (arith, L.invariant.1, row_in L.r t))

pub overflow_add-at : goal.overflow_add-at
overflow_add-at c = let L = c.loop-r in record { fits = omega (arith, L.invariant.1, row_in L.r c.loop-r-test.true) }

pub loop-r-preserved : goal.loop-r-preserved
loop-r-preserved c =
    let L = c.loop-r in
    let t = c.loop-r-test.true in (
      omega (arith, t),
      row_after L.r L.at t L.invariant.1,
      upper_next c.args.n c.args.s.now L.r L.all c.row_in_range-one.result t c.row_in_range-one.ensures ∙ L.invariant.2,
    )

pub returns : goal.returns
returns c =
    let L = c.loop-r in
    let e : L.r ≡ 11 = omega (arith, L.invariant.0, c.loop-r-test) in
    sym (upper_end c.args.n c.args.s.now L.all) ∙ rw e at L.invariant.2
