-- `frame::ranged::trained` meets its contract. Assumes nothing.
use mathlib.Core.Path.{sym}
use mir.Syntax.{w16}
use Rattle.laws.proofs.Size.{back}
use Rattle.laws.specs.Choice.{cases}
use Rattle.frame_map.proofs.Laws.{part_sync}
use Rattle.frame.specs.Align.{trained_part, trained_at}
use Rattle.frame.proofs.Laws.{untrained}
use Rattle.frame.proofs.ranged.trained.Goals as goal

pub trained-requires : goal.trained-requires
trained-requires c = let p = c.requires in p.train (search cases)

pub returns-then-m-lt24 : goal.returns-then-m-lt24
unfolding trained_at trained_part
returns-then-m-lt24 c =
    let a = c.args in
    let d = c.reference-d in
    let p = c.struct_told-then-m-lt24-1.given in
    let g = rw (back w16 d.result.i p.0.1, back w16 d.result.q p.1.0.1, d.ensures) at c.trained.ensures in
    rw (g, part_sync a.m.j c.if-m-lt24.true)

pub returns-else-m-lt24 : goal.returns-else-m-lt24
returns-else-m-lt24 c = let a = c.args in sym (untrained a.e a.m a.f.now a.s.now c.if-m-lt24.false)
