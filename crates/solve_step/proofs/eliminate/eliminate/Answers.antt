-- `solve_step::eliminate::eliminate` meets its contract. Assumes nothing.
use Rattle.std.proofs.lemmas.Result.{err_from_is_err_and}
use mathlib.Core.Path.{sym, ◌∙◌}
use Rattle.solve_step.proofs.Turns.{reduce_row, reduce_stop, reduce_ended}
use Rattle.solve_step.proofs.eliminate.eliminate.Goals as goal

pub returns-in_err-best : goal.returns-in_err-best
returns-in_err-best c =
    let e = err_from_is_err_and c.from_residual.result c.from_residual.ensures.1 in
    rw (e.1, e.2) (sym (reduce_stop _ _ _ c.loop-c-test.true (sym c.find_pivot.ensures.0 ∙ c.in_err-best.was)) ∙ c.loop-c.invariant)

pub loop-c-preserved : goal.loop-c-preserved
loop-c-preserved c =
    rw c.eliminate_column.ensures (sym (reduce_row _ _ _ c.loop-c-test.true (sym c.find_pivot.ensures.0 ∙ c.in_ok-best.was)) ∙ c.loop-c.invariant)

pub returns : goal.returns
returns c = sym (reduce_ended _ _ c.loop-c-test.false) ∙ c.loop-c.invariant
