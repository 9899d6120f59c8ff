-- `solve_step::back::unknown` meets its contract. Assumes nothing.
use Rattle.solve_step.specs.Back.{unknown_at}
use Rattle.solve_step.proofs.back.unknown.Goals as goal

pub returns : goal.returns
unfolding unknown_at
returns c = rw (c.quotient.ensures, c.rest.ensures, c.entry-d.ensures, c.entry-v.ensures)
