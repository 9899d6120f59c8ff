-- `phase_replay::calls::rotate` meets its contract. Assumes nothing.
use mathlib.Core.Path.{sym}
use lib.Seq.{length-take-le}
use Rattle.phase_replay.specs.Calls.{rotate_call}
use Rattle.laws.proofs.Size.{back}
use mir.Syntax.{w8}
use Rattle.fields.proofs.Laws.{take_least}
use borrow.Author.Rules.{rules}
use Rattle.phase_replay.proofs.calls.rotate.Goals as goal

pub slice_bounds-rotate-end : goal.slice_bounds-rotate-end
slice_bounds-rotate-end c = sym (length-take-le _ _ (search rules))

pub returns : goal.returns
unfolding rotate_call
returns c =
    let a = c.args in
    let e = rw (back w8 c.of_bits.result c.of_bits.type_inv, back w8 c.of_bits-2.result c.of_bits-2.type_inv, c.of_bits.ensures, c.of_bits-2.ensures, c.least-k.ensures.0, take_least _ a.table.now, c.nco_at-n.ensures) at c.rotate.ensures in
    rw (c.rotated.ensures, e)
