-- `frame::ranged::taken` meets its contract. Assumes nothing.
use mir.Syntax.{w16}
use Rattle.laws.specs.Choice.{cases}
use Rattle.laws.proofs.Size.{back}
use Rattle.frame.specs.Align.{taken_by, equalised_by}
use Rattle.frame.proofs.ranged.taken.Goals as goal

pub trained-requires : goal.trained-requires
trained-requires c =
    let a = c.args in
    let y = c.struct_told-2-1.given in
    let g = rw (back w16 a.c.y.i y.0.1, back w16 a.c.y.q y.1.0.1) at c.pushed-e.ensures in
    rw g (c.requires.aligned c.if-b-lt5.false)

pub returns-then-b-lt5 : goal.returns-then-b-lt5
unfolding taken_by
returns-then-b-lt5 c =
    let a = c.args in
    let y = c.struct_told-2-1.given in
    let g = rw (back w16 a.c.y.i y.0.1, back w16 a.c.y.q y.1.0.1) at c.pushed-e.ensures in
    rw (c.join.ensures, c.meta_of-m.ensures, g) (search cases)

pub returns : goal.returns
unfolding taken_by equalised_by
returns c =
    let a = c.args in
    let y = c.struct_told-2-1.given in
    let g = rw (back w16 a.c.y.i y.0.1, back w16 a.c.y.q y.1.0.1) at c.pushed-e.ensures in
    rw (c.move_up.ensures, c.trained.ensures, c.unwrap_or-z.ensures, c.output_of.ensures, c.meta_of-m.ensures, g) (search cases)
