-- `solve_step::rows::update_entry` meets its contract. Assumes nothing.
use Rattle.solve_step.specs.Eliminate.{entry_less}
use Rattle.solve_step.proofs.rows.update_entry.Goals as goal

pub returns : goal.returns
unfolding entry_less
returns g c =
    rw (c.set_entry.ensures, c.subtract.ensures, c.multiply.ensures, c.entry-v.ensures, c.entry-x.ensures)
