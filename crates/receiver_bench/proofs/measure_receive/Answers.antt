-- The loop has made j calls. Assumes nothing.
use Prim.Native.Nat.{ℕ}
use mathlib.Core.Path.{◌≡◌, refl, ap, ◌∙◌}
use native.Mathlib.Omega.{arith}
use mir.Facts.{to_z-of_z}
use mir.Syntax.{w64}
use Rattle.receiver.specs.Feed.{Block}
use Rattle.receiver_bench.specs.Streams.{Flow, feed_many, flow, lent_of, new_flow, received}
use Rattle.receiver_bench.proofs.Laws.{feed_more, new_flow_lem}
use Rattle.receiver_bench.proofs.measure_receive.Goals as goal

pub loop-j-init : goal.loop-j-init
unfolding feed_many
loop-j-init c = (omega arith, omega arith, refl, refl, refl, refl)

pub turn-requires : goal.turn-requires
turn-requires c = c.loop-j.invariant.1

pub overflow_add-taken : goal.overflow_add-taken
overflow_add-taken c = rw c.taken_of-x.ensures (record { fits = omega (arith, c.turn.ensures.2, c.well_formed.0.0) })

pub loop-j-preserved : goal.loop-j-preserved
loop-j-preserved c =
    let h = c.loop-j in
    let g = c.turn in
    let a = c.args in
    let b : Block = record { bytes = a.bytes.now; f = a.words.f; s = a.words.s; table = a.table.now } in (
      omega (arith, c.loop-j-test.true),
      rw c.taken_of-x.ensures g.ensures.2,
      rw c.taken_of-x.ensures (feed_more b h.j _ (flow h.r h.taken h.refusal (lent_of h.acc h.store h.soft)) g.result _ h.invariant.2 g.ensures.0 g.ensures.1),
      g.auto.acc ∙ h.invariant.3,
      g.auto.store ∙ h.invariant.4,
      g.auto.soft ∙ h.invariant.5,
    )

pub shape_of-acc : goal.shape_of-acc
shape_of-acc c = c.loop-j.invariant.3 ∙ c.begin-b.auto.acc

pub shape_of-store : goal.shape_of-store
shape_of-store c = c.loop-j.invariant.4

pub shape_of-soft : goal.shape_of-soft
shape_of-soft c = c.loop-j.invariant.5

pub returns : goal.returns
returns c =
    let h = c.loop-j in
    let a = c.args in
    let p = c.begin-b in
    let b : Block = record { bytes = a.bytes.now; f = a.words.f; s = a.words.s; table = a.table.now } in
    let w : Flow = new_flow a.bits a.points.now a.k (lent_of a.acc.now a.store.now a.soft.now) in
    let e : h.j ≡ a.calls = omega (arith, h.invariant.0, c.loop-j-test) in
    let z = new_flow_lem a.bits a.points.now a.k a.acc.now _ a.store.now a.soft.now p.result (rw (to_z-of_z {w = w64} c.ranges.k) at p.ensures.0) p.ensures.1 in
    let q = h.invariant.2 ∙ ap (λ (x : Flow). feed_many b h.j x) z ∙ ap (λ (v : ℕ). feed_many b v w) e in
    (ap received q, ap (λ (x : Flow). x.lent) q)
