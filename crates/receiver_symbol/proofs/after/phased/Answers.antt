-- `receiver_symbol::after::phased` meets its contract. Assumes nothing.
use Rattle.receiver_symbol.specs.Parts.{phase_by, stored_by}
use Rattle.laws.specs.Choice.{cases}
use mathlib.Core.Path.{◌∙◌}
use mir.Facts.{to_z-of_z}
use mir.Syntax.{w16}
use Rattle.receiver_symbol.proofs.after.phased.Goals as goal

pub returns-then-t-ge23 : goal.returns-then-t-ge23
unfolding phase_by stored_by
returns-then-t-ge23 c =
    let g = rw (to_z-of_z {w = w16} c.ranges.i, to_z-of_z {w = w16} c.ranges.q) at c.pushed.ensures in
    (g.0 ∙ search cases, g.1 ∙ search cases)

pub returns-else-t-ge23 : goal.returns-else-t-ge23
unfolding phase_by stored_by
returns-else-t-ge23 c = (search cases, search cases)
