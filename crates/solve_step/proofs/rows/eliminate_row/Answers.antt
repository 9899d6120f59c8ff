-- `solve_step::rows::eliminate_row` meets its contract. Assumes nothing.
use Rattle.solve_step.specs.Eliminate.{factor_of, row_step}
use Rattle.solve_step.proofs.rows.eliminate_row.Goals as goal

pub returns : goal.returns
unfolding factor_of row_step
returns c =
    rw (c.update_entry.ensures, c.update_row.ensures, c.quotient-f.ensures, c.entry-d.ensures, c.entry-x.ensures)
