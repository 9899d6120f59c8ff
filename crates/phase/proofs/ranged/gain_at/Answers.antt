-- `phase::ranged::gain_at` meets its contract. Assumes nothing.
use mathlib.Core.Path.{refl, ◌∙◌}
use Prim.Native.Nat.{◌*◌, ◌^◌}
use native.Mathlib.Omega.{arith}
use lib.IntN.{pos, ◌*ℤ◌}
use mir.Facts.{to_z-of_z}
use mir.Syntax.{w64}
use mir.Val.{to_z, of_z}
use Rattle.angles.proofs.Laws.{round_near}
use Rattle.fx.specs.Fx.{round_shift}
use Rattle.laws.proofs.Size.{Num, arg_le, plus, at, fits}
use Rattle.phase.proofs.Laws.{stepped}
use Rattle.phase.specs.Phase.{gain_at}
use Rattle.phase.proofs.ranged.gain_at.Lts as lts
use Rattle.phase.proofs.ranged.gain_at.Tie as tie
use Rattle.phase.proofs.ranged.gain_at.Reads as reads
use Rattle.phase.proofs.ranged.gain_at.Goals as goal

step : (c : (lts.Start tie.the-claims reads.Pre reads.Post)) → Num (to_z w64 (of_z w64 c.args.gamma) *ℤ to_z w64 c.args.j) (c.args.gamma *ℤ pos c.args.j) (2 ^ 29 * 9296)
step c = stepped c.args.gamma c.args.j (2 ^ 29) c.requires.1 (omega arith) c.requires.2

pub overflow_mul-gamma : goal.overflow_mul-gamma
overflow_mul-gamma c = fits w64 (step c) tt

pub round_shift-requires : goal.round_shift-requires
round_shift-requires c = let n = at w64 (step c) tt in rw n.is (omega (arith, n.size), omega arith)

-- the gain's step, and the sum
moved : (c : (lts.After-round_shift tie.the-claims reads.Pre reads.Post)) → Num (to_z w64 (of_z w64 c.round_shift.result)) (round_shift (c.args.gamma *ℤ pos c.args.j) 16) (2 ^ 27)
moved c =
    let n = at w64 (step c.before) tt in
    let v = c.args.gamma *ℤ pos c.args.j in
    record {
      is = to_z-of_z {w = w64} (record { sfits = c.round_shift.type_inv }) ∙ rw n.is at c.round_shift.ensures;
      size = omega (arith, round_near v 16 (omega arith), n.size);
    }

pub overflow_add-result : goal.overflow_add-result
overflow_add-result c = fits w64 (plus (arg_le (2 ^ 27) c.ranges.gain c.requires.0) (moved c)) tt

pub returns : goal.returns
unfolding gain_at
returns c =
    let n = at w64 (plus (arg_le (2 ^ 27) c.ranges.gain c.requires.0) (moved c)) tt in
    rw n.is (refl, n.size)
