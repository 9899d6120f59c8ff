-- `demap_replay::calls::part` meets its contract. Assumes nothing.
use Rattle.fields.proofs.Laws.{take_least}
use Rattle.demap_replay.specs.Calls.{part_told}
use Rattle.demap_replay.proofs.calls.part.Goals as goal

pub returns-in-Ok : goal.returns-in-Ok
unfolding part_told
returns-in-Ok c =
    let a = c.args in
    let e = rw (c.least-a.ensures.0, c.least-b.ensures.0, take_least _ a.learned.now, take_least _ a.nominal.now, c.index.ensures) at c.in-Ok.ensures in
    rw (c.single.ensures, c.of.ensures, ← e)

pub returns-in-Err : goal.returns-in-Err
unfolding part_told
returns-in-Err c =
    let a = c.args in
    let e = rw (c.least-a.ensures.0, c.least-b.ensures.0, take_least _ a.learned.now, take_least _ a.nominal.now, c.index.ensures) at c.in-Err.ensures in
    rw (c.single-in-Err.ensures, c.number.ensures, c.of-in-Err.ensures, ← e)
