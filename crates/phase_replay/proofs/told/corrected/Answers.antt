-- `phase_replay::told::corrected` meets its contract. Assumes nothing.
use Rattle.phase_replay.specs.Told.{corrected_told}
use mir.Facts.{to_z-of_z}
use mir.Val.{SFits}
use mir.Syntax.{w16, w64}
use borrow.Author.Rules.{rules}
use Rattle.phase_replay.proofs.told.corrected.Goals as goal

pub returns : goal.returns
unfolding corrected_told
returns c =
    let k = c.args.c in
    let g : SFits w64 k.gain = search rules in
    let ri : SFits w16 k.r.i = search rules in
    let rq : SFits w16 k.r.q = search rules in
    let yi : SFits w16 k.y.i = search rules in
    let yq : SFits w16 k.y.q = search rules in
    rw (
      rw (to_z-of_z yq) at c.to_bits-5.ensures,
      rw (to_z-of_z yi) at c.to_bits-4.ensures,
      rw (to_z-of_z g) at c.to_bits-3.ensures,
      rw (to_z-of_z rq) at c.to_bits-2.ensures,
      rw (to_z-of_z ri) at c.to_bits.ensures,
      c.word_number.ensures,
      c.slot_shown-s.ensures,
    )
