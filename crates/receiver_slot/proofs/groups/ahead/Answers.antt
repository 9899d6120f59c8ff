-- `receiver_slot::groups::ahead` meets its contract: after t turns t symbols stand in front. Assumes nothing.
use Prim.Native.Nat.{◌-◌, ◌*◌, ◌<◌}
use lib.ListN.{length-set, set}
use lib.Signed.{mag}
use mathlib.Core.Path.{◌≡◌, ◌∙◌}
use mir.Syntax.{w16}
use native.Mathlib.Omega.{arith}
use Rattle.laws.proofs.Size.{back}
use Rattle.receiver_slot.proofs.Ahead.{ahead-start, ahead-turn}
use Rattle.receiver_slot.proofs.groups.ahead.Goals as goal

pub loop-t-init : goal.loop-t-init
loop-t-init c = (omega arith, ahead-start c.args.w c.args.table.now c.args.store.now c.args.l.now c.args.k, c.requires.0)

pub corrected-c-requires : goal.corrected-c-requires
corrected-c-requires c =
    let h = c.requires in
    let t : c.loop-t.t < c.args.n = omega (arith, c.loop-t-test.true) in
    (h.1, omega (arith, t, h.3), omega (arith, t, h.2, h.3), h.5, h.6)

pub loop-t-preserved : goal.loop-t-preserved
loop-t-preserved c =
    let L = c.loop-t in
    let a = c.args in
    let t : L.t < a.n = omega (arith, c.loop-t-test.true) in
    let r = c.corrected-c in
    let hi : mag r.result.y.i < 32768 = c.struct_told-1.given.0.1 in
    let hq : mag r.result.y.q < 32768 = c.struct_told-in-loop-t-1.given.1.0.1 in
    rw (back w16 r.result.y.i hi, back w16 r.result.y.q hq) (
      omega (arith, t),
      ahead-turn a.w a.table.now a.store.now a.k L.t a.l.now L.l r.result c.requires.0 (omega (arith, t, c.requires.4)) r.ensures L.invariant.1,
      length-set (set L.l (278 - 2 * L.t) r.result.y.i) (279 - 2 * L.t) r.result.y.q ∙ length-set L.l (278 - 2 * L.t) r.result.y.i ∙ L.invariant.2,
    )

pub returns : goal.returns
returns c =
    let L = c.loop-t in
    let e : L.t ≡ c.args.n = omega arith in
    rw e at L.invariant.1
