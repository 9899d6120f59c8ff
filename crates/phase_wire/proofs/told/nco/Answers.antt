-- `phase_wire::told::nco` meets its contract. Assumes nothing.
use Rattle.phase_wire.specs.Told.{nco_told}
use mir.Facts.{to_z-of_z}
use mir.Val.{SFits}
use mir.Syntax.{w32}
use borrow.Author.Rules.{rules}
use Rattle.phase_wire.proofs.told.nco.Goals as goal

pub returns : goal.returns
unfolding nco_told
returns c =
    let f : SFits w32 c.args.n.freq = search rules in
    rw (rw (to_z-of_z f) at c.to_bits.ensures, c.trail_shown-s.ensures)
