-- What tells nothing, then a symbol; or one of both. Assumes nothing.
use Prim.Native.Nat.{◌-◌}
use mathlib.Core.Path.{◌≡◌, refl, sym, ◌∙◌}
use native.Mathlib.Omega.{arith}
use Rattle.sync_corr.proofs.Laws.{rows_small}
use Rattle.receiver_feed.specs.Turns.{calm_of}
use Rattle.receiver_feed.proofs.Calm.{calm_known, tally_in}
use Rattle.receiver_feed.proofs.Stand.{both_end, stands_same, stretch-end, stretch-left}
use Rattle.receiver_feed.proofs.turns.turn.Goals as goal

pub single-requires : goal.single-requires
single-requires c = (c.requires.0, c.requires.1, c.requires.3, c.requires.4 ∙ sym (tally_in c.args.r c.requires.4))

pub stretch-p-requires : goal.stretch-p-requires
stretch-p-requires c =
    let p = c.requires in
    let k = calm_known c.args.r _ _ c.calm-m.ensures c.if-m-eq0.false in
    (k.0, k.1, omega (arith, c.if-m-eq0.false), omega (arith, k.2, p.0, p.1), rw p.2 (rows_small c.args.f.now c.args.s.now p.3.first p.3.second), p.3.cosines, p.3.long, p.3.held)

pub overflow_add-i : goal.overflow_add-i
overflow_add-i c =
    let p = c.requires in
    let k = calm_known c.args.r _ _ c.calm-m.ensures c.if-m-eq0.false in
    omega (arith, c.stretch-p.ensures.4, k.2, p.0, p.1, c.well_formed.1.1.1.0.0)

pub single-requires-then-m-left : goal.single-requires-then-m-left
single-requires-then-m-left c =
    let p = c.requires in
    let g = c.stretch-p in
    (omega (arith, g.ensures.4, c.if-m-left.true, p.0), p.1, stands_same _ _ _ _ _ _ _ _ _ g.auto.acc g.auto.store refl p.3, g.ensures.6)

pub stretch-p-requires-else-m-left : goal.stretch-p-requires-else-m-left
stretch-p-requires-else-m-left c =
    let p = c.requires in
    let k = calm_known c.args.r _ _ c.calm-m.ensures c.if-m-eq0.false in
    let w : c.args.n - c.args.i ≡ c.calm-m.result = omega (arith, k.2, c.if-m-left.false) in
    let e : c.args.n - c.args.i ≡ calm_of c.args.r (c.args.n - c.args.i) = w ∙ c.calm-m.ensures in
    let j = calm_known c.args.r _ _ e (λ z. c.if-m-eq0.false (sym w ∙ z)) in
    (j.0, j.1, omega (arith, p.0), omega (arith, p.0, p.1), rw p.2 (rows_small c.args.f.now c.args.s.now p.3.first p.3.second), p.3.cosines, p.3.long, p.3.held)

pub overflow_add-result : goal.overflow_add-result
overflow_add-result c = omega (arith, c.stretch-p-else-m-left.ensures.4, c.requires.0, c.requires.1, c.well_formed.1.1.1.0.0)

pub returns-then-m-left : goal.returns-then-m-left
returns-then-m-left c =
    let a = c.args in
    let g = c.stretch-p.ensures in
    both_end _ _ _ _ _ _ _ _ _ _
    (stretch-left (record { bytes = a.bytes.now; f = a.f.now; s = a.s.now; table = a.table.now }) a.n a.i a.r a.acc.now a.store.now a.soft.now _ _ _ _ _ _ c.requires.0
    c.calm-m.ensures c.if-m-eq0.false c.requires.3 c.requires.2 g.0 g.1 g.2 g.4 g.5)
    c.single-then-m-left.ensures

pub returns-else-m-left : goal.returns-else-m-left
returns-else-m-left c =
    let p = c.requires in
    let k = calm_known c.args.r _ _ c.calm-m.ensures c.if-m-eq0.false in
    let w : c.args.n - c.args.i ≡ c.calm-m.result = omega (arith, k.2, c.if-m-left.false) in
    let e : c.args.n - c.args.i ≡ calm_of c.args.r (c.args.n - c.args.i) = w ∙ c.calm-m.ensures in
    let a = c.args in
    let g = c.stretch-p-else-m-left.ensures in
    stretch-end (record { bytes = a.bytes.now; f = a.f.now; s = a.s.now; table = a.table.now }) a.n a.i a.r a.acc.now a.store.now a.soft.now _ _ _ _ _ _ c.requires.0
    e (λ z. c.if-m-eq0.false (sym w ∙ z)) c.requires.3 c.requires.2 g.0 g.1 g.2 g.3 g.4 g.5
