-- `phase_replay::told::due` meets its contract. Assumes nothing.
use borrow.Author.Rules.{rules}
use mir.Facts.{to_z-of_z}
use mir.Syntax.{w64}
use mir.Val.{SFits}
use Rattle.phase_replay.specs.Told.{due_told}
use Rattle.phase_replay.proofs.told.due.Goals as goal

pub returns-in-Err : goal.returns-in-Err
unfolding due_told
returns-in-Err c = rw (c.in-Err.is, c.four.ensures, c.number.ensures)

pub returns-in-None : goal.returns-in-None
unfolding due_told
returns-in-None c = rw (c.in-Ok.is, c.in-None.is, c.four-in-None.ensures)

pub returns-in-Some : goal.returns-in-Some
unfolding due_told
returns-in-Some c =
    let s = c.in-Some.s in
    let d : SFits w64 s.delta = search rules in
    let g : SFits w64 s.gain = search rules in
    let m : SFits w64 s.gamma = search rules in
    rw (c.in-Ok.is, c.in-Some.is, c.head.ensures, rw (to_z-of_z m) at c.to_bits-in-Some-2.ensures, rw (to_z-of_z g) at c.to_bits-in-Some.ensures, rw (to_z-of_z d) at c.to_bits.ensures)
