-- `receiver_play::ranged::play` meets its contract. Assumes nothing.
use Prim.Native.Nat.{ℕ, ◌+◌, ◌-◌}
use Rattle.receiver_play.proofs.Laws.{told-on, told-quiet, told_refused, told_stop}
use Rattle.receiver_play.specs.Play.{block, lent_of, quiet}
use mathlib.Core.Path.{◌∙◌, ◌≡◌, ap, refl, sym}
use native.Mathlib.Omega.{arith}
use Rattle.receiver_play.proofs.ranged.play.Goals as goal

pub loop-i-init : goal.loop-i-init
loop-i-init c =
    let e : c.args.n - 0 ≡ c.args.n = omega arith in
    (omega arith, refl, refl, refl, rw e refl)

pub one-requires : goal.one-requires
one-requires c = omega (arith, c.requires, c.loop-i-test.true)

pub shape_of-acc-then-tells : goal.shape_of-acc-then-tells
shape_of-acc-then-tells c = c.one.auto.acc ∙ c.loop-i.invariant.1

pub shape_of-store-then-tells : goal.shape_of-store-then-tells
shape_of-store-then-tells c = c.one.auto.store ∙ c.loop-i.invariant.2

pub shape_of-soft-then-tells : goal.shape_of-soft-then-tells
shape_of-soft-then-tells c = c.one.auto.soft ∙ c.loop-i.invariant.3

pub returns-then-tells : goal.returns-then-tells
returns-then-tells c =
    let h = c.loop-i in
    let s = c.args in
    let b = block s.x.now s.f s.s s.table.now in
    told_stop b (s.n - (h.i + 1)) (s.n - h.i) h.i h.q (lent_of h.acc h.store h.soft) _ c.in-Ok.a _ _ (omega (arith, c.loop-i-test.true)) h.invariant.4 (sym c.in-Ok.is ∙ c.one.ensures.0) c.one.ensures.1 (sym c.tells.ensures ∙ c.if-tells.true) c.taken_at.ensures

pub shape_of-acc-in-Err : goal.shape_of-acc-in-Err
shape_of-acc-in-Err c = c.one.auto.acc ∙ c.loop-i.invariant.1

pub shape_of-store-in-Err : goal.shape_of-store-in-Err
shape_of-store-in-Err c = c.one.auto.store ∙ c.loop-i.invariant.2

pub shape_of-soft-in-Err : goal.shape_of-soft-in-Err
shape_of-soft-in-Err c = c.one.auto.soft ∙ c.loop-i.invariant.3

pub returns-in-Err : goal.returns-in-Err
returns-in-Err c =
    let h = c.loop-i in
    let s = c.args in
    let b = block s.x.now s.f s.s s.table.now in
    told_refused b (s.n - (h.i + 1)) (s.n - h.i) h.i h.q (lent_of h.acc h.store h.soft) _ c.in-Err.refused _ _ (omega (arith, c.loop-i-test.true)) h.invariant.4 (sym c.in-Err.is ∙ c.one.ensures.0) c.one.ensures.1 c.refused_at.ensures

pub loop-i-preserved : goal.loop-i-preserved
loop-i-preserved c =
    let h = c.loop-i in
    let s = c.args in
    let b = block s.x.now s.f s.s s.table.now in
    (omega arith, c.one.auto.acc ∙ h.invariant.1, c.one.auto.store ∙ h.invariant.2, c.one.auto.soft ∙ h.invariant.3, rw c.leave.ensures (told-on b (s.n - (h.i + 1)) (s.n - h.i) h.i h.q (lent_of h.acc h.store h.soft) _ c.in-Ok.a _ (omega (arith, c.loop-i-test.true)) h.invariant.4 (sym c.in-Ok.is ∙ c.one.ensures.0) c.one.ensures.1 (sym c.tells.ensures ∙ c.if-tells.false)))

pub shape_of-acc : goal.shape_of-acc
shape_of-acc c = c.loop-i.invariant.1

pub shape_of-store : goal.shape_of-store
shape_of-store c = c.loop-i.invariant.2

pub shape_of-soft : goal.shape_of-soft
shape_of-soft c = c.loop-i.invariant.3

pub returns : goal.returns
returns c =
    let h = c.loop-i in
    let s = c.args in
    let e : h.i ≡ s.n = omega (arith, c.loop-i-test.false, h.invariant.0) in
    told-quiet (block s.x.now s.f s.s s.table.now) (s.n - h.i) h.i h.q (lent_of h.acc h.store h.soft) c.still.result _ (omega (arith, e)) h.invariant.4
    (c.still.ensures ∙ ap (λ (v : ℕ). quiet v h.q) (sym e))
