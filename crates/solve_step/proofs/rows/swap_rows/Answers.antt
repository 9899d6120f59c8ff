-- `solve_step::rows::swap_rows` meets its contract. Assumes nothing.
use mathlib.Core.Path.{sym, ◌∙◌}
use borrow.Author.Rules.{rules}
use Rattle.solve_step.proofs.Turns.{swap_turn, swap_ended}
use Rattle.solve_step.proofs.rows.swap_rows.Goals as goal

pub loop-k-preserved : goal.loop-k-preserved
loop-k-preserved c =
    (search rules, rw c.swap_entries.ensures (sym (swap_turn _ _ _ _ c.loop-k-test.true) ∙ c.loop-k.invariant.1))

pub returns : goal.returns
returns c = sym (swap_ended _ _ _ _ c.loop-k-test.false) ∙ c.loop-k.invariant.1
