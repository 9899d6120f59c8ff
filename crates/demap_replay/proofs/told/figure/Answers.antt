-- `demap_replay::told::figure` meets its contract. Assumes nothing.
use Rattle.demap_replay.specs.Told.{figure_told}
use borrow.Author.Rules.{rules}
use mir.Facts.{to_z-of_z}
use mir.Syntax.{w64}
use mir.Val.{SFits}
use Rattle.demap_replay.proofs.told.figure.Goals as goal

pub returns-in-Some : goal.returns-in-Some
unfolding figure_told
returns-in-Some c =
    let f : SFits w64 c.in-Some.v = search rules in
    rw (c.in-Some.is, c.single.ensures, rw (to_z-of_z f) at c.to_bits.ensures)

pub returns-in-None : goal.returns-in-None
unfolding figure_told
returns-in-None c = rw (c.in-None.is, c.single-in-None.ensures)
