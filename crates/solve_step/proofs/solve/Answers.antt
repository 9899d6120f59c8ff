-- `solve_step::solve` meets its contract. Assumes nothing.
use mathlib.Core.Path.{sym, ◌∙◌}
use borrow.Author.Rules.{rules}
use Rattle.solve_step.specs.Back.{solution_of}
use Rattle.solve_step.proofs.solve.Goals as goal

pub returns-in_err-t : goal.returns-in_err-t
unfolding solution_of
returns-in_err-t c = rw (sym c.eliminate.ensures ∙ c.in_err-t.was) (search rules)

pub returns : goal.returns
unfolding solution_of
returns c = rw (c.back.ensures, sym c.eliminate.ensures ∙ c.in_ok-t.was)
