-- `solve_step::rows::swap_entries` meets its contract. Assumes nothing.
use Rattle.solve_step.specs.Eliminate.{entry_swap}
use Rattle.solve_step.proofs.rows.swap_entries.Goals as goal

pub returns : goal.returns
unfolding entry_swap
returns g c =
    rw (c.set_entry-2.ensures, c.set_entry.ensures, c.entry-y.ensures, c.entry-x.ensures)
