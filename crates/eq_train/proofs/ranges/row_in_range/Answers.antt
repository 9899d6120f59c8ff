-- `eq_train::ranges::row_in_range` meets its contract. Assumes nothing.
use mathlib.Core.Path.{◌≡◌, sym, ◌∙◌}
use Prim.Native.Nat.{ℕ, ◌+◌, ◌*◌}
use native.Mathlib.Omega.{arith}
use native.Mathlib.Numerals.{add-one}
use mir.Syntax.{w64}
use Rattle.laws.proofs.Size.{back}
use Rattle.sums.specs.Sums.{upper_at}
use Rattle.eq_train.specs.Train.{nth}
use Rattle.eq_train.proofs.Places.{next_column}
use Rattle.eq_train.proofs.Tested.{diagonal_entry, product_entry, row_one, row_next, row_end}
use Rattle.eq_train.proofs.ranges.row_in_range.Goals as goal

further : (r c k : ℕ) → k ≡ 2 * upper_at r c → k + 2 ≡ 2 * upper_at r (c + 1)
further r c k e = rw (add-one c) (omega (arith, next_column r c))

pub loop-c-init : goal.loop-c-init
loop-c-init c =
    let s = c.args.s.now in
    let r = c.args.r in
    let at = c.args.at in
    let e : at ≡ 2 * upper_at r r = c.requires.1 in
    let f = rw (back w64 (nth s at) c.diagonal_in_range-arg-1.given, back w64 (nth s (at + 1)) c.diagonal_in_range-arg-2-1.given, e) at c.diagonal_in_range-all.ensures in (
      omega arith,
      omega arith,
      further r r at e,
      omega (arith, c.requires),
      row_one c.args.n s r r c.diagonal_in_range-all.result c.requires.0 (f ∙ sym (diagonal_entry c.args.n s r)),
    )

pub loop-c-preserved : goal.loop-c-preserved
loop-c-preserved c =
    let S = c.args in
    let L = c.loop-c in
    let s = S.s.now in
    let t = c.loop-c-test.true in
    let e : L.k ≡ 2 * upper_at S.r L.c = L.invariant.2 in
    let f = rw (back w64 (nth s L.k) c.product_in_range-arg-1.given, back w64 (nth s (L.k + 1)) c.product_in_range-arg-in-loop-c-1.given, e) at c.product_in_range-one.ensures in (
      omega (arith, L.invariant.0),
      omega (arith, t),
      further S.r L.c L.k e,
      omega (arith, t, L.invariant.3),
      row_next S.n s S.r L.c L.all c.product_in_range-one.result t (f ∙ sym (product_entry S.n s S.r L.c L.invariant.0)) ∙ L.invariant.4,
    )

pub returns : goal.returns
returns c =
    let L = c.loop-c in
    let S = c.args in
    let e : L.c ≡ 11 = omega (arith, L.invariant.1, c.loop-c-test) in
    sym (row_end S.n S.s.now S.r L.all) ∙ rw e at L.invariant.4
