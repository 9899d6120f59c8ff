-- `sync_replay::told::placed` meets its contract. Assumes nothing.
use Rattle.std.proofs.Common.{◌≡◌, length, add-zero, arith}
use Rattle.sync_replay.proofs.Laws.{placed-all, placed_more, row_long}
use Rattle.sync_replay.proofs.told.placed.Goals as goal

pub loop-i-init : goal.loop-i-init
loop-i-init c = (omega arith, rw (add-zero c.args.k))

pub loop-i-preserved : goal.loop-i-preserved
loop-i-preserved c =
    let s = c.args in
    let x = c.row-x.result in
    let n : length x ≡ 11 = rw c.row-x.ensures (row_long s.e) in
    (omega arith, placed_more c.loop-i.r s.t x s.k c.loop-i.i (omega (arith, n)) c.loop-i.invariant.1)

pub returns : goal.returns
returns c =
    let s = c.args in
    let x = c.row-x.result in
    let n : length x ≡ c.loop-i.i = rw (c.row-x.ensures, row_long s.e) (omega arith) in
    (rw c.row-x.ensures at (placed-all c.loop-i.r s.t x s.k c.loop-i.i n c.loop-i.invariant.1))
