-- `solve_step::complex::Complex::subtract` meets its contract. Assumes nothing.
use lib.Ieee.{sub}
use Rattle.solve_step.proofs.complex.Complex.subtract.Goals as goal

pub returns : goal.returns
unfolding sub
returns c = c.add.ensures
