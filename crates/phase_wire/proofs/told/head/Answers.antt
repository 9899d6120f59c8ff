-- `phase_wire::told::head` meets its contract. Assumes nothing.
use Rattle.phase_wire.specs.Told.{head_told}
use mir.Facts.{to_z-of_z}
use mir.Val.{SFits}
use mir.Syntax.{w32, w64}
use borrow.Author.Rules.{rules}
use Rattle.phase_wire.proofs.told.head.Goals as goal

pub returns : goal.returns
unfolding head_told
returns c =
    let h = c.args.h in
    let a : SFits w64 h.amp = search rules in
    let re : SFits w32 h.corr.re = search rules in
    let im : SFits w32 h.corr.im = search rules in
    rw (rw (to_z-of_z im) at c.to_bits-3.ensures, rw (to_z-of_z re) at c.to_bits-2.ensures, rw (to_z-of_z a) at c.to_bits.ensures, c.word_number.ensures, c.slot_shown-s.ensures)
