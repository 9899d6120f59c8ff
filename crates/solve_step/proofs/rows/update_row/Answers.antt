-- `solve_step::rows::update_row` meets its contract. Assumes nothing.
use mathlib.Core.Path.{sym, ◌∙◌}
use borrow.Author.Rules.{rules}
use Rattle.solve_step.proofs.Turns.{row_turn, row_ended}
use Rattle.solve_step.proofs.rows.update_row.Goals as goal

pub loop-k-preserved : goal.loop-k-preserved
loop-k-preserved c =
    (search rules, rw c.update_entry.ensures (sym (row_turn _ _ _ _ _ c.loop-k-test.true) ∙ c.loop-k.invariant.1))

pub returns : goal.returns
returns c = sym (row_ended _ _ _ _ _ c.loop-k-test.false) ∙ c.loop-k.invariant.1
