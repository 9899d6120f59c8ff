-- `phase_replay::told::whole` meets its contract. Assumes nothing.
use Rattle.phase_replay.specs.Told.{whole_told}
use mir.Facts.{to_z-of_z}
use mir.Val.{SFits}
use mir.Syntax.{w64}
use borrow.Author.Rules.{rules}
use Rattle.phase_replay.proofs.told.whole.Goals as goal

pub returns-in-Ok : goal.returns-in-Ok
unfolding whole_told
returns-in-Ok c =
    let f : SFits w64 c.in-Ok.v = search rules in
    rw (c.in-Ok.is, c.four.ensures, rw (to_z-of_z f) at c.to_bits.ensures)

pub returns-in-Err : goal.returns-in-Err
unfolding whole_told
returns-in-Err c = rw (c.in-Err.is, c.four-in-Err.ensures, c.number.ensures)
