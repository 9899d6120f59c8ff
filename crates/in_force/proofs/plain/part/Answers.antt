-- `in_force::plain::part` meets its contract: what the chooser answers, or nothing. Assumes nothing.
use mathlib.Core.Path.{ap}
use Rattle.in_force.specs.Answers.{lent, part_in_force, part_or_none}
use Rattle.in_force.proofs.plain.part.Goals as goal

pub returns-in-Ok : goal.returns-in-Ok
unfolding part_in_force
returns-in-Ok c = rw (← c.points_in_force.ensures, c.in-Ok.is)

pub returns-in-Err : goal.returns-in-Err
unfolding part_in_force
returns-in-Err c = rw (← c.points_in_force.ensures, c.in-Err.is)
