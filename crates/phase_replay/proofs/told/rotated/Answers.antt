-- `phase_replay::told::rotated` meets its contract. Assumes nothing.
use borrow.Author.Rules.{rules}
use mir.Facts.{to_z-of_z}
use mir.Syntax.{w16}
use mir.Val.{SFits}
use Rattle.phase_replay.specs.Told.{rotated_told}
use Rattle.phase_replay.proofs.told.rotated.Goals as goal

pub returns-in-Ok : goal.returns-in-Ok
unfolding rotated_told
returns-in-Ok c =
    let x = c.in-Ok.x in
    let i : SFits w16 x.symbol.i = search rules in
    let q : SFits w16 x.symbol.q = search rules in
    rw (c.in-Ok.is, c.nco.ensures, rw (to_z-of_z q) at c.to_bits-in-Ok.ensures, rw (to_z-of_z i) at c.to_bits.ensures)

pub returns-in-Err : goal.returns-in-Err
unfolding rotated_told
returns-in-Err c = rw (c.in-Err.is, c.nco-in-Err.ensures, c.number.ensures)
