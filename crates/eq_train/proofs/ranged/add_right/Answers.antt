-- `eq_train::ranged::add_right` meets its contract. Assumes nothing.
use mathlib.Core.Path.{◌≡◌, refl, sym, ap, ◌∙◌}
use Prim.Native.Nat.{ℕ, ◌+◌, ◌*◌}
use native.Mathlib.Omega.{arith}
use native.Mathlib.Nat.{le_refl}
use lib.IntN.{◌+ℤ◌}
use lib.ListN.{set}
use mir.Facts.{to_z-of_z}
use mir.Syntax.{w16, w64}
use mir.Val.{to_z, of_z}
use Rattle.fx.specs.declared.Parts.{Parts}
use Rattle.laws.proofs.Size.{back}
use Rattle.eq_train.specs.Train.{nth, right_product}
use Rattle.eq_train.proofs.Adding.{right_turn, right_done, room_step, room_two, held, summed}
use Rattle.eq_train.proofs.ranged.add_right.Goals as goal

two : (r : ℕ) → 2 * (r + 1) ≡ 2 * r + 2
two r = omega arith

pub loop-r-init : goal.loop-r-init
loop-r-init c = (omega arith, c.requires.0, refl)

pub plus-requires : goal.plus-requires
plus-requires c =
    let L = c.loop-r in
    let v = c.conj_product-v in
    let a = L.invariant.1.small (2 * L.r) (le_refl (2 * L.r)) (omega (arith, c.loop-r-test.true)) in
    rw (held (nth L.p (2 * L.r)) a, held v.result.re (omega (arith, v.ensures.1))) (a, v.ensures.1)

pub plus-requires-in-loop-r : goal.plus-requires-in-loop-r
plus-requires-in-loop-r c =
    let L = c.loop-r in
    let v = c.conj_product-v in
    let x = to_z w64 (of_z w64 c.plus.result) in
    let a = (room_step x L.invariant.1).small (2 * L.r + 1) (omega arith) (omega (arith, c.loop-r-test.true)) in
    rw (held (nth (set L.p (2 * L.r) x) (2 * L.r + 1)) a, held v.result.im (omega (arith, v.ensures.2))) (a, v.ensures.2)

pub loop-r-preserved : goal.loop-r-preserved
unfolding right_product
loop-r-preserved c =
    let v = c.conj_product-v in
    let t = c.loop-r-test.true in
    let L = c.loop-r in
    let S = c.args in
    let line = S.line.now in
    let di = to_z w16 (of_z w16 S.di) in
    let dq = to_z w16 (of_z w16 S.dq) in
    let k = 2 * L.r in
    let x = to_z w64 (of_z w64 c.plus.result) in
    let y = to_z w64 (of_z w64 c.plus-in-loop-r.result) in
    let m = L.invariant.1 in
    let n = room_step x m in
    let ar = back w16 (nth line k) c.conj_product-arg-1.given in
    let ai = back w16 (nth line (k + 1)) c.conj_product-arg-in-loop-r-1.given in
    let e : v.result ≡ right_product line di dq L.r = rw (ar, ai) at v.ensures.0 in
    let a = m.small k (le_refl k) (omega (arith, t)) in
    let b = n.small (k + 1) (omega arith) (omega (arith, t)) in
    let f = summed c.plus.result (nth L.p k) v.result.re c.plus.type_inv a v.ensures.1 c.plus.ensures in
    let g = summed c.plus-in-loop-r.result (nth (set L.p k x) (k + 1)) v.result.im c.plus-in-loop-r.type_inv b v.ensures.2 c.plus-in-loop-r.ensures in (
      omega (arith, t),
      rw (two L.r) (room_two x y m),
      right_turn L.p line di dq L.r x y t (f ∙ ap (λ (q : Parts). nth L.p k +ℤ q.re) e) (g ∙ ap (λ (q : Parts). nth (set L.p k x) (k + 1) +ℤ q.im) e) ∙ L.invariant.2,
    )

pub returns : goal.returns
returns c =
    let L = c.loop-r in
    let e : L.r ≡ 11 = omega (arith, L.invariant.0, c.loop-r-test) in
    sym (right_done L.p c.args.line.now c.args.di c.args.dq 22) ∙ rw (e, to_z-of_z c.ranges.di, to_z-of_z c.ranges.dq) at L.invariant.2
