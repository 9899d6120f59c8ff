-- `eq_calls::calls::symbol_told` meets its contract. Assumes nothing.
use mir.Facts.{to_z-of_z}
use mir.Val.{SFits}
use mir.Syntax.{w16}
use borrow.Author.Rules.{rules}
use Rattle.eq_calls.specs.Calls.{symbol_told}
use Rattle.eq_calls.proofs.calls.symbol_told.Goals as goal

pub returns-in-None : goal.returns-in-None
unfolding symbol_told
returns-in-None c = rw (c.in-None.is, c.told.ensures)

pub returns-in-Some : goal.returns-in-Some
unfolding symbol_told
returns-in-Some c =
    let z = c.in-Some.z in
    let fi : SFits w16 z.i = search rules in
    let fq : SFits w16 z.q = search rules in
    rw (c.in-Some.is, c.told-in-Some.ensures, rw (to_z-of_z fq) at c.to_bits-in-Some.ensures, rw (to_z-of_z fi) at c.to_bits.ensures)
