-- `receiver_symbol::looks::window` meets its contract. Assumes nothing.
use Rattle.receiver_symbol.specs.Parts.{window_by}
use Rattle.laws.proofs.Size.{back}
use mathlib.Core.Path.{◌∙◌}
use mir.Facts.{to_z-of_z}
use mir.Syntax.{w8}
use mir.Syntax.{w16}
use Rattle.receiver_symbol.proofs.looks.window.Goals as goal

pub returns : goal.returns
unfolding window_by
returns c =
    let a = c.args in
    let z = rw (to_z-of_z {w = w8} c.ranges.xi, to_z-of_z {w = w8} c.ranges.xq) at c.rotated-z.ensures.0 in
    let x = c.rotated-z.result in
    c.shift.ensures ∙ rw (back w16 x.i c.struct_told-1.given.0.1, back w16 x.q c.struct_told-2-1.given.1.0.1, z)
