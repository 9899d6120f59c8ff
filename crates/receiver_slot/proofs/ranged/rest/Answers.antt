-- `receiver_slot::ranged::rest` meets its contract: behind each group, line and buffer are those of its symbols. Assumes nothing.
use mathlib.Core.Path.{◌≡◌, refl}
use Prim.Native.Nat.{◌<◌}
use native.Mathlib.Omega.{arith}
use lib.Dec.{lit≤}
use lib.ListN.{drop, length-append, length-drop, length-take, take}
use Rattle.receiver_slot.proofs.Stretches.{Done, at-end, at-start, done-length, done_none, group-done, group-ok, held, last_run, outs_kept}
use Rattle.receiver_slot.proofs.ranged.rest.Goals as goal

pub loop-g-init : goal.loop-g-init
loop-g-init c = (omega arith, done_none c.requires, refl)

pub group-o-requires : goal.group-o-requires
group-o-requires c =
    let L = c.loop-g in
    let a = c.args in
    let t : L.g < 66 = omega (arith, c.loop-g-test.true) in
    let H = held a.p L.g c.stretch-s.result t c.stretch-s.ensures in
    group-ok c.requires (at-start H L.invariant.1) c.stretch-s.result.symbols c.stretch-s.result.mains (take 272 L.z) H.group (omega (arith, H.next, t)) H.few H.most
    (omega (arith, L.invariant.2, length-take 272 L.z))

pub loop-g-preserved : goal.loop-g-preserved
loop-g-preserved c =
    let L = c.loop-g in
    let a = c.args in
    let t : L.g < 66 = omega (arith, c.loop-g-test.true) in
    let s = c.stretch-s in
    let H = held a.p L.g s.result t s.ensures in
    let q = c.group-o in
    let d = group-done c.requires (at-start H L.invariant.1) s.result.symbols s.result.mains _ _ _ H.group (omega (arith, H.next, t)) q.ensures.0 q.ensures.1 q.ensures.3 in (
      omega (arith, t),
      at-end H d,
      omega (
        arith,
        length-append q.new.z (drop 272 L.z),
        outs_kept s.result.from s.result.mains a.rows.now L.line a.w a.table.now a.store.now L.z q.new.z L.invariant.2 H.most q.ensures.2,
        length-drop 272 L.z,
        L.invariant.2,
      ),
    )

pub group-requires : goal.group-requires
group-requires c =
    let L = c.loop-g in
    let a = c.args in
    let e : L.g ≡ 66 = omega arith in
    let d : Done a.p a.rows.now a.line.now a.w a.table.now a.store.now 9132 a.place L.o L.line L.soft a.soft.now = rw e at L.invariant.1 in
    group-ok c.requires d 135 135 (take 272 L.z) (last_run a.p) (lit≤ tt) (lit≤ tt) (lit≤ tt) (omega (arith, L.invariant.2, length-take 272 L.z))

pub shape_of-soft : goal.shape_of-soft
shape_of-soft c =
    let L = c.loop-g in
    let a = c.args in
    let e : L.g ≡ 66 = omega arith in
    let d : Done a.p a.rows.now a.line.now a.w a.table.now a.store.now 9132 a.place L.o L.line L.soft a.soft.now = rw e at L.invariant.1 in
    let q = c.group in
    let f = group-done c.requires d 135 135 _ _ _ (last_run a.p) (lit≤ tt) q.ensures.0 q.ensures.1 q.ensures.3 in
    done-length c.requires f (lit≤ tt)

pub returns : goal.returns
returns c =
    let L = c.loop-g in
    let a = c.args in
    let e : L.g ≡ 66 = omega arith in
    let d : Done a.p a.rows.now a.line.now a.w a.table.now a.store.now 9132 a.place L.o L.line L.soft a.soft.now = rw e at L.invariant.1 in
    let q = c.group in
    let f = group-done c.requires d 135 135 _ _ _ (last_run a.p) (lit≤ tt) q.ensures.0 q.ensures.1 q.ensures.3 in
    (f.line_is, f.soft_is)
