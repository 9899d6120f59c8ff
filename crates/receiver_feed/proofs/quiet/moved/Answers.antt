-- Both ways by the slot phase. Assumes nothing.
use mir.Facts.{to_z-of_z}
use mir.Syntax.{w32}
use Rattle.receiver_feed.specs.Quiet.{place_in}
use Rattle.receiver_feed.proofs.quiet.moved.Goals as goal

pub quiet-requires-in-Some : goal.quiet-requires-in-Some
unfolding place_in
quiet-requires-in-Some c =
    let p = c.requires in
    (p.0, p.1, p.2, p.3, p.4, p.5, rw c.in-Some.is at p.6, p.7, p.8, p.9, p.10)

pub returns-in-None : goal.returns-in-None
unfolding place_in
returns-in-None c = rw c.in-None.is (rw (to_z-of_z {w = w32} c.ranges.freq) at c.quiet.ensures)

pub returns-in-Some : goal.returns-in-Some
unfolding place_in
returns-in-Some c = rw c.in-Some.is (rw (to_z-of_z {w = w32} c.ranges.freq) at c.quiet-in-Some.ensures)
