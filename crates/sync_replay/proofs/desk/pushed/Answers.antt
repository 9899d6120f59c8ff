-- `sync_replay::desk::pushed` meets its contract: the push's answer in either case. Assumes nothing.
use Rattle.std.proofs.Common.{◌∙◌, sym, to_z-of_z}
use Rattle.sync_replay.specs.Desk.{pushed_of}
use Rattle.sync_replay.proofs.desk.pushed.Goals as goal

pub returns-in-Ok : goal.returns-in-Ok
unfolding pushed_of
returns-in-Ok c =
    let g = rw (to_z-of_z c.ranges.i, to_z-of_z c.ranges.q) at c.push.ensures in
    (rw (sym g.0 ∙ c.in-Ok.is, c.after.ensures, c.answer.ensures), g.1)

pub returns-in-Err : goal.returns-in-Err
unfolding pushed_of
returns-in-Err c =
    let g = rw (to_z-of_z c.ranges.i, to_z-of_z c.ranges.q) at c.push.ensures in
    (rw (sym g.0 ∙ c.in-Err.is, c.after-in-Err.ensures, c.refused.ensures, c.number.ensures), g.1)
