-- `sync_wire::told::heads` meets its contract. Assumes nothing.
use borrow.Author.Rules.{rules}
use Rattle.sync_wire.specs.Told.{heads_told}
use mir.Facts.{to_z-of_z}
use mir.Val.{SFits}
use mir.Syntax.{w32}
use Rattle.sync_wire.proofs.told.heads.Goals as goal

pub returns : goal.returns
unfolding heads_told
returns c =
    let m : SFits w32 c.args.r.course.majority = search rules in
    rw (rw (to_z-of_z m) at c.to_bits.ensures, c.record_shown-z.ensures, c.slot_shown-y.ensures, c.stage_shown-x.ensures)
