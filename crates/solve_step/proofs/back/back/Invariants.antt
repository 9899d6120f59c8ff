use mathlib.Core.Path.{◌≡◌}
use Rattle.solve_step.specs.Back.{back_from, none_yet}
use Rattle.solve_step.proofs.back.back.Given as goal

abbrev pub invariant-loop-r : goal.invariant-loop-r
invariant-loop-r l = back_from l.s l.x l.r ≡ back_from l.s none_yet 11
