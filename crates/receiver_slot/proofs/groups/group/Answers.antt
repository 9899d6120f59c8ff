-- `receiver_slot::groups::group` meets its contract: the pieces, one after another. Assumes nothing.
use Prim.Native.Nat.{ℕ, ◌-◌, ◌*◌, ◌/◌}
use mathlib.Core.List.{List, ◌++◌}
use mathlib.Core.Path.{◌≡◌, ap, ◌∙◌}
use native.Mathlib.Omega.{arith}
use lib.IntN.{ℤ}
use lib.ListN.{drop, length, length-take, take}
use lib.Seq.{take_at}
use Rattle.receiver_slot.specs.Steps.{outs_on}
use Rattle.receiver_slot.proofs.Ahead.{filled, group-outs, last_line, outs_long}
use Rattle.receiver_slot.proofs.groups.group.Goals as goal

pub ahead-requires : goal.ahead-requires
ahead-requires c =
    let h = c.requires in
    (c.opened-l.ensures.1, h.whole, h.accepted, h.within, h.few, h.cosines, h.held)

pub closed-requires : goal.closed-requires
closed-requires c =
    let a = c.args in
    let o = c.opened-l in
    let h = c.requires in
    let b = filled a.k a.n a.line.now o.result c.ahead.new.l a.w a.table.now a.store.now c.requires.few c.requires.line_long o.ensures.0 o.ensures.1 c.ahead.ensures in
    (h.line_long, b.long, omega arith)

pub outputs-requires : goal.outputs-requires
outputs-requires c =
    let h = c.requires in
    let a = c.args in
    let o = c.opened-l in
    let f = filled a.k a.n a.line.now o.result c.ahead.new.l a.w a.table.now a.store.now c.requires.few c.requires.line_long o.ensures.0 o.ensures.1 c.ahead.ensures in
    let b = f.long in
    (h.bytes, omega (arith, b, length-take 304 c.ahead.new.l), omega (arith, h.few, h.fewer), h.outs)

-- of z the first 2 m are the outputs
part : (m : ℕ) (z old outs : List ℤ) → length outs ≡ 2 * m → z ≡ outs ++ drop (2 * m) old → take (2 * m - 0) z ≡ outs
part m z old outs h e =
    let f : 2 * m - 0 ≡ 2 * m = omega arith in
    rw (f, e) (take_at outs (drop (2 * m) old) (2 * m) h)

pub main_symbols-requires : goal.main_symbols-requires
main_symbols-requires c =
    let a = c.args in
    let o = c.opened-l in
    let b = filled a.k a.n a.line.now o.result c.ahead.new.l a.w a.table.now a.store.now c.requires.few c.requires.line_long o.ensures.0 o.ensures.1 c.ahead.ensures in
    let z = c.outputs in
    let e = part a.m z.new.out a.z.now (outs_on a.k a.m a.rows.now a.line.now a.w a.table.now a.store.now) (outs_long a.k a.m a.rows.now a.line.now a.w a.table.now a.store.now)
    (z.ensures ∙ ap (λ (x : List ℤ). x ++ drop (2 * a.m) a.z.now) (group-outs b a.m a.rows.now c.requires.fewer)) in
    let n : length (take (2 * a.m - 0) z.new.out) ≡ 2 * a.m = ap {B = ℕ} (λ (x : List ℤ). length x) e ∙ outs_long a.k a.m a.rows.now a.line.now a.w a.table.now a.store.now in
    let f : 2 * a.m / 2 ≡ a.m = omega arith in
    (c.requires.points, rw (n, f) c.requires.room, rw n (omega (arith, c.requires.most)))

pub returns : goal.returns
returns c =
    let a = c.args in
    let o = c.opened-l in
    let b = filled a.k a.n a.line.now o.result c.ahead.new.l a.w a.table.now a.store.now c.requires.few c.requires.line_long o.ensures.0 o.ensures.1 c.ahead.ensures in
    let z = c.outputs in
    let s = c.main_symbols in
    let u = outs_long a.k a.m a.rows.now a.line.now a.w a.table.now a.store.now in
    let g = z.ensures ∙ ap (λ (x : List ℤ). x ++ drop (2 * a.m) a.z.now) (group-outs b a.m a.rows.now c.requires.fewer) in
    let e = part a.m z.new.out a.z.now (outs_on a.k a.m a.rows.now a.line.now a.w a.table.now a.store.now) u g in
    let f : 2 * a.m / 2 ≡ a.m = omega arith in
    let x = rw (e, u, f) at s.ensures in
    (x.0, c.closed.ensures ∙ last_line b, g, x.1)
