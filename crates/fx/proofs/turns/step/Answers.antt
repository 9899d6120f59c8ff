-- `fx::turns::step` meets its contract. Assumes nothing.
-- the parts fit, and so do their shifts
use Rattle.std.proofs.Common.{◌^◌, arith, to_z-of_z, w64, SFits}
use Rattle.fx.proofs.Laws.{step_parts}
use Rattle.laws.proofs.Size.{back, sfits_shr, abs_shr, sfits_abs}
use Rattle.fx.proofs.turns.step.Lts as lts
use Rattle.fx.proofs.turns.step.Tie as tie
use Rattle.fx.proofs.turns.step.Reads as reads
use Rattle.fx.proofs.turns.step.Goals as goal

x_fits : (s : (lts.Start tie.the-claims reads.Pre reads.Post)) → SFits w64 s.args.t.x
x_fits s = sfits_abs w64 s.args.t.x (omega arith)

y-fits : (s : (lts.Start tie.the-claims reads.Pre reads.Post)) → SFits w64 s.args.t.y
y-fits s = sfits_abs w64 s.args.t.y (omega arith)

pub moved-requires : goal.moved-requires
moved-requires c =
    let m = 2 ^ c.args.i in
    rw (to_z-of_z (x_fits c.before.before.before), to_z-of_z (y-fits c.before.before.before), to_z-of_z (sfits_shr m (y-fits c.before.before.before))) (omega (arith, c.requires, abs_shr c.args.t.y m))

pub moved-requires-2 : goal.moved-requires-2
moved-requires-2 c =
    let m = 2 ^ c.args.i in
    rw (to_z-of_z (y-fits c.before.before.before.before), to_z-of_z (x_fits c.before.before.before.before), to_z-of_z (sfits_shr m (x_fits c.before.before.before.before))) (omega (arith, c.requires, abs_shr c.args.t.x m))

pub returns : goal.returns
returns c =
    let m = 2 ^ c.args.i in
    let x = to_z-of_z (x_fits c.before.before.before.before.before) in
    let y = to_z-of_z (y-fits c.before.before.before.before.before) in
    rw (
      back w64 c.moved.result c.moved.type_inv,
      back w64 c.moved-2.result c.moved-2.type_inv,
      rw (x, y, to_z-of_z (sfits_shr m (y-fits c.before.before.before.before.before))) at c.moved.ensures,
      rw (y, x, to_z-of_z (sfits_shr m (x_fits c.before.before.before.before.before))) at c.moved-2.ensures,
      rw y at c.swung.ensures,
    )
    (step_parts c.args.t c.args.i c.args.a)
