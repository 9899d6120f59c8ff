-- `solve_step::back::back` meets its contract. Assumes nothing.
use mathlib.Core.Path.{refl, sym, ◌∙◌}
use Rattle.solve_step.proofs.Turns.{back_turn, back_ended}
use Rattle.solve_step.specs.Back.{none_yet}
use Rattle.solve_step.proofs.back.back.Goals as goal

pub loop-r-init : goal.loop-r-init
unfolding none_yet
loop-r-init c = refl

pub loop-r-preserved : goal.loop-r-preserved
loop-r-preserved c = rw (c.set_entry.ensures, c.unknown-v.ensures) (sym (back_turn _ _ _ c.loop-r-test.true) ∙ c.loop-r.invariant)

pub returns : goal.returns
returns c = sym (back_ended _ _ _ c.loop-r-test.false) ∙ c.loop-r.invariant
