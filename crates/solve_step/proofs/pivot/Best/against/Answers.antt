-- `solve_step::pivot::Best::against` meets its contract. Assumes nothing.
use mathlib.Core.Bool.{true, false}
use mathlib.Core.Path.{◌≡◌, sym}
use lib.Ieee.{le}
use Rattle.laws.specs.Choice.{if_yes, if_no}
use Rattle.solve_step.specs.Pivot.{better_of}
use Rattle.solve_step.proofs.pivot.Best.against.Goals as goal

pub returns-then-z-self : goal.returns-then-z-self
unfolding better_of
returns-then-z-self c =
    let x = c.args in
    let h : le x.self.size x.z ≡ true = c.if-z-self.true in
    sym (if_yes _ _ _ h)

pub returns-else-z-self : goal.returns-else-z-self
unfolding better_of
returns-else-z-self c =
    let x = c.args in
    let h : le x.self.size x.z ≡ false = c.if-z-self.false in
    sym (if_no _ _ _ h)
