-- x after all steps is small enough to be multiplied and shifted. Assumes nothing.
use Rattle.std.proofs.Common.{◌≡◌, ◌+◌, ◌*◌, ◌^◌, ◌≤◌, pos, ◌*ℤ◌, nat_abs, arith, to_z-of_z, w64, SFits}
use Rattle.laws.proofs.Size.{abs_mul, sfits_abs}
use Rattle.fx.specs.Cordic.{cordic_start, cordic_steps, cordic_of}
use Rattle.fx.proofs.Bounds.{start_within, steps_within_lem, far_size}
use Rattle.fx.proofs.ranged.cordic.Lts as lts
use Rattle.fx.proofs.ranged.cordic.Tie as tie
use Rattle.fx.proofs.ranged.cordic.Reads as reads
use Rattle.fx.proofs.ranged.cordic.Goals as goal

after : (c : (lts.After-turned tie.the-claims reads.Pre reads.Post)) → c.turned-t.result ≡ cordic_steps 16 (cordic_start c.args.re c.args.im)
after c = rw (to_z-of_z c.ranges.re, to_z-of_z c.ranges.im) at c.turned-t.ensures

x-size : (c : (lts.After-turned tie.the-claims reads.Pre reads.Post)) → nat_abs c.turned-t.result.x ≤ 768 * 2 ^ 22 + 16
x-size c =
    let w = start_within c.args.re c.args.im (2 ^ 22) (omega (arith, c.requires.0)) (omega (arith, c.requires.1)) in
    rw (after c) (far_size (2 ^ 22) 16 (cordic_steps 16 (cordic_start c.args.re c.args.im)) (steps_within_lem (2 ^ 22) 16 (cordic_start c.args.re c.args.im) w))

product : (c : (lts.After-turned tie.the-claims reads.Pre reads.Post)) → nat_abs (c.turned-t.result.x *ℤ pos 39797) ≤ 2 ^ 50
product c = omega (arith, x-size c, abs_mul c.turned-t.result.x (pos 39797))

x_fits : (c : (lts.After-turned tie.the-claims reads.Pre reads.Post)) → SFits w64 c.turned-t.result.x
x_fits c = sfits_abs w64 c.turned-t.result.x (omega (arith, x-size c))

product-fits : (c : (lts.After-turned tie.the-claims reads.Pre reads.Post)) → SFits w64 (c.turned-t.result.x *ℤ pos 39797)
product-fits c = sfits_abs w64 (c.turned-t.result.x *ℤ pos 39797) (omega (arith, product c))

pub overflow_mul-t : goal.overflow_mul-t
overflow_mul-t c = rw (to_z-of_z (x_fits c.before.before.before)) (product-fits c.before.before.before)

pub round_shift-size-requires : goal.round_shift-size-requires
round_shift-size-requires c = rw (to_z-of_z (x_fits c.before.before.before), to_z-of_z (product-fits c.before.before.before)) (omega (arith, product c.before.before.before))

pub returns : goal.returns
unfolding cordic_of
returns c =
    rw (to_z-of_z (record { sfits = c.round_shift-size.type_inv }), rw (to_z-of_z (x_fits c.before.before.before), to_z-of_z (product-fits c.before.before.before)) at c.round_shift-size.ensures, after c.before.before.before)
