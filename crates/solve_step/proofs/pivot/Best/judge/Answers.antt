-- `solve_step::pivot::Best::judge` meets its contract. Assumes nothing.
use mathlib.Core.Bool.{true, false}
use mathlib.Core.Path.{◌≡◌, sym}
use lib.Ieee.{lt}
use Rattle.laws.specs.Choice.{if_yes, if_no}
use Rattle.solve_step.specs.Pivot.{tiny, judged_of}
use Rattle.solve_step.proofs.pivot.Best.judge.Goals as goal

pub returns-then-self : goal.returns-then-self
unfolding judged_of
returns-then-self c =
    let x = c.args in
    let h : lt x.self.size tiny ≡ true = c.if-self.true in
    sym (if_yes _ _ _ h)

pub returns-else-self : goal.returns-else-self
unfolding judged_of
returns-else-self c =
    let x = c.args in
    let h : lt x.self.size tiny ≡ false = c.if-self.false in
    sym (if_no _ _ _ h)
