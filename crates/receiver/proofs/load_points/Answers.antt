-- `receiver::load_points` meets its contract. Assumes nothing.
use Rattle.receiver.proofs.Laws.{points_taken}
use Rattle.receiver.specs.Answers.{points_answer}
use lib.ListN.{length}
use mathlib.Core.Path.{◌∙◌, sym}
use mir.Facts.{to_z-of_z}
use mir.Syntax.{w64}
use Rattle.receiver.proofs.load_points.Goals as goal

pub loaded_points-requires : goal.loaded_points-requires
loaded_points-requires c =
    let a = c.args in
    let n = rw (to_z-of_z {w = w64} c.ranges.k) at c.load_points.ensures in
    let t = points_taken a.r a.bits (length a.points.now) a.k (sym n ∙ c.in-Ok.is) in
    (t.0, rw (to_z-of_z {w = w64} c.ranges.k) t.1, rw (to_z-of_z {w = w64} c.ranges.k) t.2)

pub returns-in-Ok : goal.returns-in-Ok
unfolding points_answer
returns-in-Ok c =
    let n = rw (to_z-of_z {w = w64} c.ranges.k) at c.load_points.ensures in
    let p = rw (to_z-of_z {w = w64} c.ranges.k) at c.loaded_points.ensures in
    rw (c.with_points.ensures, p, ← n, c.in-Ok.is)

pub returns-in-Err : goal.returns-in-Err
unfolding points_answer
returns-in-Err c =
    let n = rw (to_z-of_z {w = w64} c.ranges.k) at c.load_points.ensures in
    rw (← n, c.in-Err.is)
