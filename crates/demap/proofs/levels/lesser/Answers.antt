-- `demap::levels::lesser` meets its contract. Assumes nothing.
use mathlib.Core.Path.{sym, ◌∙◌}
use mir.Facts.{to_z-of_z}
use Rattle.laws.specs.Choice.{if_yes, if_no}
use Rattle.laws.specs.Ranges.{min_z}
use Rattle.demap.proofs.levels.lesser.Goals as goal

pub returns-then-b-a : goal.returns-then-b-a
unfolding min_z
returns-then-b-a c =
    let a = to_z-of_z c.ranges.a in
    let b = to_z-of_z c.ranges.b in
    b ∙ sym (if_yes _ _ _ (rw (a, b) at c.if-b-a.true))

pub returns-else-b-a : goal.returns-else-b-a
unfolding min_z
returns-else-b-a c =
    let a = to_z-of_z c.ranges.a in
    let b = to_z-of_z c.ranges.b in
    a ∙ sym (if_no _ _ _ (rw (a, b) at c.if-b-a.false))
