-- All steps: the loop's point is that of its number of steps, small enough for the next. Assumes nothing.
use Rattle.std.proofs.Common.{◌≡◌, ◌+◌, ◌*◌, ◌^◌, ◌≤◌, nat_abs, refl, add-one, arith, to_z-of_z}
use Rattle.fx.specs.Cordic.{cordic_angles, cordic_start, cordic_steps}
use Rattle.fx.proofs.Bounds.{Within, start_within, steps_within_lem, far_size}
use Rattle.fx.proofs.turns.turned.Lts as lts
use Rattle.fx.proofs.turns.turned.Tie as tie
use Rattle.fx.proofs.turns.turned.Reads as reads
use Rattle.fx.proofs.turns.turned.Goals as goal

pub loop-i-init : goal.loop-i-init
unfolding cordic_steps
loop-i-init c = (omega arith, refl)

-- the point that the loop starts from
started : (c : (lts.After-start tie.the-claims reads.Pre reads.Post goal.the-invariant-loop-i goal.the-decreases-loop-i)) → c.start-t.result ≡ cordic_start c.args.re c.args.im
started c = rw (to_z-of_z c.ranges.re, to_z-of_z c.ranges.im) at c.start-t.ensures

-- the point at the loop's head is small
small : (c : (lts.At-loop tie.the-claims reads.Pre reads.Post goal.the-invariant-loop-i goal.the-decreases-loop-i)) → Within (2 ^ 22) c.loop-i.i c.loop-i.t
small c =
    rw c.loop-i.invariant.1
    (steps_within_lem (2 ^ 22) c.loop-i.i c.start-t.result
    (rw (started c.before) (start_within c.args.re c.args.im (2 ^ 22) (omega (arith, c.requires.0)) (omega (arith, c.requires.1)))))

x-size : (c : (lts.At-loop tie.the-claims reads.Pre reads.Post goal.the-invariant-loop-i goal.the-decreases-loop-i)) → nat_abs c.loop-i.t.x ≤ 768 * 2 ^ 22 + 16
x-size c = omega (arith, far_size (2 ^ 22) c.loop-i.i c.loop-i.t (small c), c.loop-i.invariant.0)

pub step-t-requires : goal.step-t-requires
step-t-requires c =
    omega (arith, x-size c.before, (small c.before).low)

pub loop-i-preserved : goal.loop-i-preserved
unfolding cordic_steps cordic_angles
loop-i-preserved c =
    (omega arith, rw (add-one c.loop-i.i, ← c.loop-i.invariant.1) c.step-t.ensures)

pub returns : goal.returns
returns c =
    let e : c.loop-i.i ≡ 16 = omega arith in
    rw (e, started c.before.before) at c.loop-i.invariant.1
