-- `eq_train::ranged::add_row` meets its contract. Assumes nothing.
use mathlib.Core.Path.{◌≡◌, refl, sym, ap, ◌∙◌}
use Prim.Native.Nat.{◌+◌, ◌*◌, ◌-◌}
use native.Mathlib.Omega.{arith}
use native.Mathlib.Nat.{le_refl}
use lib.IntN.{◌+ℤ◌}
use lib.ListN.{set}
use mir.Syntax.{w16, w64}
use mir.Val.{to_z, of_z}
use Rattle.fx.specs.declared.Parts.{Parts}
use Rattle.laws.proofs.Size.{back}
use Rattle.eq_train.specs.Train.{nth, row_products, line_product}
use Rattle.eq_train.proofs.Adding.{row_length, room_later, row_turn, row_done, room_step, room_two, held, summed}
use Rattle.eq_train.proofs.ranged.add_row.Goals as goal

pub loop-c-init : goal.loop-c-init
loop-c-init c = (omega arith, c.requires.3, c.requires.0, refl)

pub plus-requires : goal.plus-requires
plus-requires c =
    let L = c.loop-c in
    let v = c.conj_product-v in
    let a = L.invariant.2.small L.k (le_refl L.k) (omega (arith, L.invariant.1, c.loop-c-test.true)) in
    rw (held (nth L.s L.k) a, held v.result.re (omega (arith, v.ensures.1))) (a, v.ensures.1)

pub plus-requires-in-loop-c : goal.plus-requires-in-loop-c
plus-requires-in-loop-c c =
    let L = c.loop-c in
    let v = c.conj_product-v in
    let m = room_step (to_z w64 (of_z w64 c.plus.result)) L.invariant.2 in
    let s = set L.s L.k (to_z w64 (of_z w64 c.plus.result)) in
    let a = m.small (L.k + 1) (omega arith) (omega (arith, L.invariant.1, c.loop-c-test.true)) in
    rw (held (nth s (L.k + 1)) a, held v.result.im (omega (arith, v.ensures.2))) (a, v.ensures.2)

pub loop-c-preserved : goal.loop-c-preserved
unfolding line_product
loop-c-preserved c =
    let v = c.conj_product-v in
    let t = c.loop-c-test.true in
    let L = c.loop-c in
    let S = c.args in
    let line = S.line.now in
    let x = to_z w64 (of_z w64 c.plus.result) in
    let y = to_z w64 (of_z w64 c.plus-in-loop-c.result) in
    let m = L.invariant.2 in
    let n = room_step x m in
    let ar = back w16 (nth line (2 * S.r)) c.ar-1.given in
    let ai = back w16 (nth line (2 * S.r + 1)) c.ai-1.given in
    let br = back w16 (nth line (2 * L.c)) c.conj_product-arg-1.given in
    let bi = back w16 (nth line (2 * L.c + 1)) c.conj_product-arg-in-loop-c-1.given in
    let e : v.result ≡ line_product line S.r L.c = rw (ar, ai, br, bi) at v.ensures.0 in
    let a = m.small L.k (le_refl L.k) (omega (arith, L.invariant.1, t)) in
    let b = n.small (L.k + 1) (omega arith) (omega (arith, L.invariant.1, t)) in
    let f = summed c.plus.result (nth L.s L.k) v.result.re c.plus.type_inv a v.ensures.1 c.plus.ensures in
    let g = summed c.plus-in-loop-c.result (nth (set L.s L.k x) (L.k + 1)) v.result.im c.plus-in-loop-c.type_inv b v.ensures.2 c.plus-in-loop-c.ensures in (
      omega (arith, t),
      omega (arith, t, L.invariant.1),
      room_two x y m,
      row_turn L.s line S.r L.c L.k x y (omega (arith, t)) (f ∙ ap (λ (p : Parts). nth L.s L.k +ℤ p.re) e) (g ∙ ap (λ (p : Parts). nth (set L.s L.k x) (L.k + 1) +ℤ p.im) e) ∙ L.invariant.3,
    )

pub returns : goal.returns
returns c =
    let L = c.loop-c in
    let line = c.args.line.now in
    let r = c.args.r in
    let row = row_products line r r (11 - r) in
    let e : L.c ≡ 11 = omega (arith, L.invariant.0, c.loop-c-test) in
    let f = sym (row_done L.s line r L.k) ∙ rw e at L.invariant.3 in
    let m = rw (row_length line r r (11 - r)) at (room_later row c.requires.0) in
    (f, rw f m)
