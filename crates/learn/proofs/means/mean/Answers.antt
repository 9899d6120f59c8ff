-- `learn::means::mean` meets its contract. Assumes nothing.
use mathlib.Core.Path.{◌≡◌, ap, ◌∙◌}
use native.Mathlib.Omega.{arith}
use lib.IntN.{pos}
use mir.Facts.{to_z-of_z}
use mir.Syntax.{w16, w64}
use Rattle.fx.specs.Fx.{div_round, sat16_of}
use Rattle.laws.proofs.Size.{back}
use Rattle.learn.specs.Learning.{mean_of}
use Rattle.learn.proofs.Laws.{divisor}
use Rattle.learn.proofs.means.mean.Goals as goal

pub div_round-requires : goal.div_round-requires
div_round-requires c =
    let d = divisor c.args.count c.requires.1 (omega arith) in
    rw (to_z-of_z c.ranges.sum, d.0) (omega (arith, c.requires.0), d.1, d.2)

pub returns : goal.returns
unfolding mean_of
returns c =
    let q = c.div_round in
    let d = divisor c.args.count c.requires.1 (omega arith) in
    let e : q.result ≡ div_round c.args.sum (pos c.args.count) = rw (to_z-of_z c.ranges.sum, d.0) at q.ensures in
    back w16 c.sat16.result c.sat16.type_inv ∙ c.sat16.ensures ∙ ap sat16_of (back w64 q.result q.type_inv ∙ e)
