-- `sync_replay::desk::pushes` meets its contract. Assumes nothing.
use Rattle.std.proofs.Common.{◌≡◌, ◌∙◌, add-one, arith, to_z-of_z, w16, to_z, of_z}
use Rattle.sync_replay.proofs.Laws.{pushes_more, pushes-none, st_eq}
use Rattle.sync_replay.specs.Desk.{st}
use Rattle.sync_replay.proofs.desk.pushes.Goals as goal

pub loop-k-init : goal.loop-k-init
loop-k-init c = (omega arith, pushes-none _ _ _)

pub loop-k-preserved : goal.loop-k-preserved
loop-k-preserved c =
    let s = c.args in
    let g = c.pushed-r in
    let i = to_z w16 (of_z w16 s.i) in
    let q = to_z w16 (of_z w16 s.q) in
    (rw (add-one c.loop-k.k) c.loop-k-test.true, st_eq _ _ _ _ g.ensures.0 g.ensures.1 ∙ pushes_more c.loop-k.k i q (st s.d s.acc.now) (st c.loop-k.r c.loop-k.acc) c.loop-k.invariant.1)

pub returns : goal.returns
returns c =
    let e : c.loop-k.k ≡ c.args.n = omega arith in
    rw (to_z-of_z c.ranges.i, to_z-of_z c.ranges.q, e) at c.loop-k.invariant.1
