-- `fx::ranged::mag_approx` meets its contract: the sizes are naturals, and omega reads max, min and halves. Assumes nothing.
-- what the two calls gave: the sizes of the parameters
use Rattle.std.proofs.Common.{◌≡◌, pos, nat_abs, ap, ◌∙◌, arith, to_z-of_z, w64}
use mir.Facts.{to_z_pos}
use Rattle.fx.specs.Fx.{mag_approx}
use Rattle.fx.proofs.ranged.mag_approx.Lts as lts
use Rattle.fx.proofs.ranged.mag_approx.Tie as tie
use Rattle.fx.proofs.ranged.mag_approx.Reads as reads
use Rattle.fx.proofs.ranged.mag_approx.Goals as goal

sizes : (c : (lts.After-unsigned_abs2 tie.the-claims reads.Pre reads.Post tie.handed_clauses)) → (c.unsigned_abs-a.result ≡ nat_abs c.args.re) × (c.unsigned_abs-b.result ≡ nat_abs c.args.im)
sizes c = (rw (to_z-of_z c.ranges.re) at c.unsigned_abs-a.ensures.value, rw (to_z-of_z c.ranges.im) at c.unsigned_abs-b.ensures.value)

pub overflow_add-result : goal.overflow_add-result
overflow_add-result c = omega (arith, sizes c.before)

pub overflow_cast-result : goal.overflow_cast-result
overflow_cast-result c = omega (arith, sizes c.before)

pub overflow_add-result-else-a-b : goal.overflow_add-result-else-a-b
overflow_add-result-else-a-b c = omega (arith, sizes c.before)

pub overflow_cast-result-else-a-b : goal.overflow_cast-result-else-a-b
overflow_cast-result-else-a-b c = omega (arith, sizes c.before)

pub returns-then-a-b : goal.returns-then-a-b
unfolding mag_approx
returns-then-a-b c = to_z_pos w64 (overflow_cast-result c).sfits ∙ ap pos (omega (arith, sizes c.before))

pub returns-else-a-b : goal.returns-else-a-b
unfolding mag_approx
returns-else-a-b c = to_z_pos w64 (overflow_cast-result-else-a-b c).sfits ∙ ap pos (omega (arith, sizes c.before))
