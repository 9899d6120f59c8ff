-- `solve_step::rows::eliminate_rows` meets its contract. Assumes nothing.
use mathlib.Core.Path.{sym, ◌∙◌}
use borrow.Author.Rules.{rules}
use Rattle.solve_step.proofs.Turns.{rows_turn, rows_ended}
use Rattle.solve_step.proofs.rows.eliminate_rows.Goals as goal

pub loop-r-preserved : goal.loop-r-preserved
loop-r-preserved c =
    (search rules, rw c.eliminate_row.ensures (sym (rows_turn _ _ _ c.loop-r-test.true) ∙ c.loop-r.invariant.1))

pub returns : goal.returns
returns c = sym (rows_ended _ _ _ c.loop-r-test.false) ∙ c.loop-r.invariant.1
