-- `receiver_bench::begin` meets its contract. Assumes nothing.
use mir.Facts.{to_z-of_z}
use mir.Syntax.{w64}
use Rattle.receiver_bench.specs.Streams.{begun_of}
use Rattle.receiver_bench.proofs.begin.Goals as goal

pub returns-in-Ok : goal.returns-in-Ok
unfolding begun_of
returns-in-Ok c =
    let p = rw (to_z-of_z {w = w64} c.ranges.k) at c.load_points.ensures in
    (rw (← c.new.ensures.0, ← c.state-r.ensures, ← p, c.in-Ok.is), c.new.ensures.1)

pub returns-in-Err : goal.returns-in-Err
unfolding begun_of
returns-in-Err c =
    let p = rw (to_z-of_z {w = w64} c.ranges.k) at c.load_points.ensures in
    (rw (← c.new.ensures.0, ← c.state-r.ensures, ← p, c.in-Err.is, c.number.ensures), c.new.ensures.1)
