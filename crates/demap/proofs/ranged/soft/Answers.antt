-- `demap::ranged::soft` meets its contract. Assumes nothing.
use mathlib.Core.Path.{ap, ◌∙◌}
use native.Mathlib.Omega.{arith}
use lib.IntN.{◌*ℤ◌}
use mir.Syntax.{w8, w64}
use mir.Val.{to_z, of_z}
use Rattle.fx.specs.Fx.{sat127_of}
use Rattle.laws.proofs.Size.{Num, fits, at, arg_le, times, back}
use Rattle.demap.specs.Demap.{soft_of}
use Rattle.demap.proofs.ranged.soft.Lts as lts
use Rattle.demap.proofs.ranged.soft.Tie as tie
use Rattle.demap.proofs.ranged.soft.Reads as reads
use Rattle.demap.proofs.ranged.soft.Goals as goal

product : (c : (lts.Start tie.the-claims reads.Pre reads.Post)) → Num (to_z w64 (of_z w64 c.args.gap) *ℤ to_z w64 (of_z w64 c.args.k)) (c.args.gap *ℤ c.args.k) 288230376151711744
product c = times (arg_le 17179869184 c.ranges.gap c.requires.0) (arg_le 16777216 c.ranges.k c.requires.1)

pub overflow_mul-gap : goal.overflow_mul-gap
overflow_mul-gap c = fits w64 (product c) tt

pub round_shift-requires : goal.round_shift-requires
round_shift-requires c = let p = at w64 (product c) tt in (rw p.is (omega (arith, p.size)), omega arith)

pub returns : goal.returns
unfolding soft_of
returns c =
    let r = c.round_shift in
    let g = rw (at w64 (product c.before.before) tt).is at r.ensures in
    back w8 c.sat127.result c.sat127.type_inv ∙ c.sat127.ensures ∙ ap sat127_of (back w64 r.result r.type_inv ∙ g)
