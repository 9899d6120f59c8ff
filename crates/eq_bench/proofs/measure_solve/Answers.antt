-- `eq_bench::measure_solve` meets its contract. Assumes nothing.
use mathlib.Core.Path.{◌∙◌, sym}
use Rattle.solve.specs.Taps.{no_taps}
use Rattle.eq_bench.specs.Blocks.{solved_of}
use Rattle.eq_bench.proofs.measure_solve.Goals as goal

pub returns-in-Ok : goal.returns-in-Ok
unfolding solved_of
returns-in-Ok c = rw (sym (rw c.from.ensures at c.solve_sums.ensures) ∙ c.in-Ok.is)

pub returns-in-Err : goal.returns-in-Err
unfolding solved_of no_taps
returns-in-Err c = rw (sym (rw c.from.ensures at c.solve_sums.ensures) ∙ c.in-Err.is, c.number.ensures)
