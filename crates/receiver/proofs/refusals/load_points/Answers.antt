-- `receiver::refusals::load_points` meets its contract. Assumes nothing.
use Rattle.receiver.specs.Answers.{points_refusal}
use Rattle.laws.specs.Choice.{cases}
use mir.Facts.{to_z-of_z}
use mir.Syntax.{w64}
use Rattle.receiver.proofs.refusals.load_points.Goals as goal

pub returns-then-bad_points : goal.returns-then-bad_points
unfolding points_refusal
returns-then-bad_points c = rw (← c.bad_points.ensures) (search cases)

pub returns-then-bad_scale : goal.returns-then-bad_scale
unfolding points_refusal
returns-then-bad_scale c = let k = rw (to_z-of_z {w = w64} c.ranges.k) at c.bad_scale.ensures in rw (← c.bad_points.ensures, ← k) (search cases)

pub returns : goal.returns
unfolding points_refusal
returns c = let k = rw (to_z-of_z {w = w64} c.ranges.k) at c.bad_scale.ensures in rw (← c.bad_points.ensures, ← k, c.range_refusal.ensures) (search cases)
