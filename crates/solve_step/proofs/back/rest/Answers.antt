-- `solve_step::back::rest` meets its contract. Assumes nothing.
use mathlib.Core.Path.{sym, ◌∙◌}
use borrow.Author.Rules.{rules}
use Rattle.solve_step.proofs.Turns.{rest_turn, rest_ended}
use Rattle.solve_step.proofs.back.rest.Goals as goal

pub loop-k-preserved : goal.loop-k-preserved
loop-k-preserved c = (
  search rules,
  rw (c.subtract-t.ensures, c.multiply-v.ensures, c.entry-in-loop-k.ensures, c.entry.ensures)
      (sym (rest_turn _ _ _ _ _ c.loop-k-test.true) ∙ c.loop-k.invariant.1),
)

pub returns : goal.returns
returns c = sym (rest_ended _ _ _ _ _ c.loop-k-test.false) ∙ c.loop-k.invariant.1
