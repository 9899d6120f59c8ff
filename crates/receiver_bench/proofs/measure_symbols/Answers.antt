-- The loop has taken i symbols. Assumes nothing.
use Prim.Native.Nat.{ℕ, ◌/◌}
use mathlib.Core.Path.{◌≡◌, refl, ap, ◌∙◌}
use native.Mathlib.Omega.{arith}
use lib.ListN.{length}
use mir.Facts.{to_z-of_z}
use mir.Syntax.{w8, w64}
use Rattle.receiver.specs.Feed.{Block}
use Rattle.receiver_bench.specs.Streams.{Flow, flow, lent_of, new_flow, received, symbol_many}
use Rattle.receiver_bench.proofs.Laws.{symbol_more, new_flow_lem}
use Rattle.receiver_bench.proofs.measure_symbols.Goals as goal

pub loop-i-init : goal.loop-i-init
unfolding symbol_many
loop-i-init c = (omega arith, refl, refl, refl, refl)

pub overflow_mul-i : goal.overflow_mul-i
overflow_mul-i c = omega (arith, c.loop-i-test.true, c.well_formed.0.0)

pub overflow_mul-i-in-loop-i : goal.overflow_mul-i-in-loop-i
overflow_mul-i-in-loop-i c = omega (arith, c.loop-i-test.true, c.well_formed.0.0)

pub overflow_add-i : goal.overflow_add-i
overflow_add-i c = omega (arith, c.loop-i-test.true, c.well_formed.0.0)

pub loop-i-preserved : goal.loop-i-preserved
loop-i-preserved c =
    let h = c.loop-i in
    let g = c.symbol in
    let a = c.args in
    let b : Block = record { bytes = a.bytes.now; f = a.words.f; s = a.words.s; table = a.table.now } in (
      omega (arith, c.loop-i-test.true),
      rw c.left_of-x.ensures (symbol_more b h.i _ (flow h.r h.i h.refusal (lent_of h.acc h.store h.soft)) _ _ g.result _ _ _ h.invariant.1
          (to_z-of_z {w = w8} (record { sfits = c.symbol-arg-1.given })) (to_z-of_z {w = w8} (record { sfits = c.symbol-arg-in-loop-i-1.given })) g.ensures.0 g.ensures.1 g.ensures.2 g.ensures.3),
      g.auto.acc ∙ h.invariant.2,
      g.auto.store ∙ h.invariant.3,
      g.auto.soft ∙ h.invariant.4,
    )

pub shape_of-acc : goal.shape_of-acc
shape_of-acc c = c.loop-i.invariant.2 ∙ c.begin-b.auto.acc

pub shape_of-store : goal.shape_of-store
shape_of-store c = c.loop-i.invariant.3

pub shape_of-soft : goal.shape_of-soft
shape_of-soft c = c.loop-i.invariant.4

pub returns : goal.returns
returns c =
    let h = c.loop-i in
    let a = c.args in
    let p = c.begin-b in
    let b : Block = record { bytes = a.bytes.now; f = a.words.f; s = a.words.s; table = a.table.now } in
    let w : Flow = new_flow a.bits a.points.now a.k (lent_of a.acc.now a.store.now a.soft.now) in
    let e : h.i ≡ length a.bytes.now / 2 = omega (arith, h.invariant.0, c.loop-i-test.false) in
    let z = new_flow_lem a.bits a.points.now a.k a.acc.now _ a.store.now a.soft.now p.result (rw (to_z-of_z {w = w64} c.ranges.k) at p.ensures.0) p.ensures.1 in
    let q = h.invariant.1 ∙ ap (λ (x : Flow). symbol_many b h.i x) z ∙ ap (λ (v : ℕ). symbol_many b v w) e in
    (rw e at (ap received q), ap (λ (x : Flow). x.lent) q)
