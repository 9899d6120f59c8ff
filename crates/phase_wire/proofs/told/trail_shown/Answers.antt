-- `phase_wire::told::trail_shown` meets its contract. Assumes nothing.
use Rattle.phase_wire.specs.Told.{trail_shown}
use mir.Facts.{to_z-of_z}
use mir.Val.{SFits}
use mir.Syntax.{w64}
use borrow.Author.Rules.{rules}
use Rattle.phase_wire.proofs.told.trail_shown.Goals as goal

pub returns-in-None : goal.returns-in-None
unfolding trail_shown
returns-in-None c = rw c.in-None.is

pub returns-in-Some : goal.returns-in-Some
unfolding trail_shown
returns-in-Some c =
    let s = c.in-Some.s in
    let f : SFits w64 s.sum = search rules in
    rw (c.in-Some.is, rw (to_z-of_z f) at c.to_bits.ensures)
