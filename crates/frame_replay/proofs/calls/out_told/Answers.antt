-- `frame_replay::calls::out_told` meets its contract. Assumes nothing.
use mir.Facts.{to_z-of_z}
use mir.Val.{SFits}
use mir.Syntax.{w16}
use borrow.Author.Rules.{rules}
use Rattle.frame_replay.specs.Calls.{out_told}
use Rattle.frame_replay.proofs.calls.out_told.Goals as goal

pub returns-in-None : goal.returns-in-None
unfolding out_told
returns-in-None c = rw (c.in-None.is, c.plain.ensures)

pub returns-in-Some : goal.returns-in-Some
unfolding out_told
returns-in-Some c =
    let z = c.in-Some.a.z in
    let fi : SFits w16 z.i = search rules in
    let fq : SFits w16 z.q = search rules in
    rw (c.in-Some.is, c.turned.ensures, c.told-t.ensures, rw (to_z-of_z fq) at c.to_bits-q.ensures, rw (to_z-of_z fi) at c.to_bits-i.ensures)
