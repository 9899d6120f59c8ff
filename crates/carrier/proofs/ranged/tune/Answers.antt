-- `carrier::ranged::tune` meets its contract: 2^37 x 246,412 is below 2^55. Assumes nothing.
use Prim.Native.Nat.{◌+◌, ◌*◌, ◌≤◌, ◌^◌}
use mathlib.Core.Path.{◌∙◌}
use native.Mathlib.Omega.{arith}
use mir.Facts.{to_z-of_z}
use mir.Syntax.{w32, w64}
use mir.Val.{SFits, to_z, of_z}
use lib.Dec.{lit<}
use lib.IntN.{ℤ, pos, nat_abs, ◌+ℤ◌, ◌*ℤ◌}
use Rattle.angles.proofs.Laws.{round_near}
use Rattle.fx.proofs.Laws.{clamped, in_bounds}
use Rattle.fx.specs.Fx.{round_shift}
use Rattle.laws.proofs.Size.{Num, arg, arg_le, sfits_abs, lit, plus, times, at, back, fits}
use Rattle.carrier.specs.Carrier.{tuned}
use Rattle.carrier.proofs.ranged.tune.Lts as lts
use Rattle.carrier.proofs.ranged.tune.Tie as tie
use Rattle.carrier.proofs.ranged.tune.Reads as reads
use Rattle.carrier.proofs.ranged.tune.Goals as goal

product : (z : ℤ) → nat_abs z ≤ 2 ^ 37 → Num (to_z w64 (of_z w64 z) *ℤ pos 246412) (z *ℤ pos 246412) (2 ^ 37 * 246412)
product z h = times (arg_le (2 ^ 37) (sfits_abs w64 z (omega (arith, h))) h) (lit 246412)

pub overflow_cast-f : goal.overflow_cast-f
overflow_cast-f c = fits w64 (arg c.ranges.freq) tt

pub overflow_mul-sum : goal.overflow_mul-sum
overflow_mul-sum c = fits w64 (product c.args.sum c.requires) tt

pub round_shift-requires : goal.round_shift-requires
round_shift-requires c = let n = at w64 (product c.args.sum c.requires) tt in rw n.is (omega (arith, n.size), omega arith)

shifted : (c : (lts.After-round_shift tie.the-claims reads.Pre reads.Post tie.handed_clauses)) → Num (to_z w64 (of_z w64 (to_z w32 (of_z w32 c.args.freq))) +ℤ to_z w64 (of_z w64 c.round_shift.result))
    (c.args.freq +ℤ round_shift (c.args.sum *ℤ pos 246412) 39) (2 ^ 31 + 2 ^ 17)
shifted c =
    let v = c.args.sum *ℤ pos 246412 in
    let n = at w64 (product c.args.sum c.requires) tt in
    plus {B = 2 ^ 17} (at w64 (arg c.ranges.freq) tt)
    (record { is = back w64 c.round_shift.result c.round_shift.type_inv ∙ rw n.is at c.round_shift.ensures; size = omega (arith, n.size, round_near v 39 (lit< tt)) })

pub overflow_add-f : goal.overflow_add-f
overflow_add-f c = fits w64 (shifted c) tt

pub overflow_cast-result : goal.overflow_cast-result
overflow_cast-result c =
    let e = c.clamp.ensures in
    let wide : SFits w64 c.clamp.result = record { sfits = c.clamp.type_inv } in
    rw (to_z-of_z wide) (record { sfits = omega (arith, in_bounds 524286 524287 c.clamp.result e.lower_bound e.upper_bound) })

pub returns : goal.returns
unfolding tuned
returns c =
    let a = c.args in
    let e = c.clamp.ensures in
    let wide : SFits w64 c.clamp.result = record { sfits = c.clamp.type_inv } in
    let narrow : SFits w32 c.clamp.result = record { sfits = omega (arith, in_bounds 524286 524287 c.clamp.result e.lower_bound e.upper_bound) } in
    rw (to_z-of_z wide, to_z-of_z narrow) ((rw (at w64 (shifted c.before) tt).is at e.value) ∙ clamped 524286 524287 (a.freq +ℤ round_shift (a.sum *ℤ pos 246412) 39))
