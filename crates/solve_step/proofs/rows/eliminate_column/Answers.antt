-- `solve_step::rows::eliminate_column` meets its contract. Assumes nothing.
use Rattle.solve_step.specs.Eliminate.{column_step}
use Rattle.solve_step.proofs.rows.eliminate_column.Goals as goal

pub returns : goal.returns
unfolding column_step
returns c =
    rw (c.eliminate_rows.ensures, c.swap_entries.ensures, c.swap_rows.ensures)
