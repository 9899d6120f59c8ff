-- `phase::ranged::due` meets its contract. Assumes nothing.
use mathlib.Core.Path.{sym, subst}
use borrow.Author.Tests.{eq-eqb, ne_eqb}
use Rattle.laws.specs.Choice.{cases, if_yes, if_no}
use Rattle.phase.specs.Phase.{due_in}
use Rattle.phase.specs.Ranges.{PhaseOk}
use Rattle.phase.proofs.ranged.due.Goals as goal

pub whole-requires : goal.whole-requires
whole-requires c =
    let p = c.requires in
    (subst PhaseOk c.in-Some.is p.0, p.1)

pub returns-in-None : goal.returns-in-None
unfolding due_in
returns-in-None c = search cases

pub returns-then-x-eq9296 : goal.returns-then-x-eq9296
unfolding due_in
returns-then-x-eq9296 c = rw (c.in-Some.is, c.whole.ensures) (sym (if_yes _ _ _ (eq-eqb _ _ c.if-x-eq9296.true)))

pub returns-else-x-eq9296 : goal.returns-else-x-eq9296
unfolding due_in
returns-else-x-eq9296 c = rw c.in-Some.is (sym (if_no _ _ _ (ne_eqb _ _ c.if-x-eq9296.false)))
