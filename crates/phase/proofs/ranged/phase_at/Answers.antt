-- `phase::ranged::phase_at` meets its contract. Assumes nothing.
use mathlib.Core.Path.{◌≡◌, ◌∙◌}
use Prim.Native.Nat.{◌*◌, ◌^◌}
use native.Mathlib.Omega.{arith}
use lib.IntN.{pos, ◌*ℤ◌}
use mir.Facts.{to_z-of_z}
use mir.Syntax.{w64}
use mir.Val.{to_z, of_z}
use Rattle.angles.proofs.Laws.{round_near}
use Rattle.fx.specs.Fx.{round_shift}
use Rattle.laws.proofs.Size.{Num, at, fits}
use Rattle.phase.proofs.Laws.{stepped}
use Rattle.phase.specs.Phase.{phase_at}
use Rattle.phase.proofs.ranged.phase_at.Lts as lts
use Rattle.phase.proofs.ranged.phase_at.Tie as tie
use Rattle.phase.proofs.ranged.phase_at.Reads as reads
use Rattle.phase.proofs.ranged.phase_at.Goals as goal

step : (c : (lts.Start tie.the-claims reads.Pre reads.Post)) → Num (to_z w64 (of_z w64 c.args.delta) *ℤ to_z w64 c.args.j) (c.args.delta *ℤ pos c.args.j) (2 ^ 34 * 9296)
step c = stepped c.args.delta c.args.j (2 ^ 34) c.requires.0 (omega arith) c.requires.1

pub overflow_mul-delta : goal.overflow_mul-delta
overflow_mul-delta c = fits w64 (step c) tt

pub round_shift-requires : goal.round_shift-requires
round_shift-requires c = let n = at w64 (step c) tt in rw n.is (omega (arith, n.size), omega arith)

moved : (c : (lts.After-round_shift tie.the-claims reads.Pre reads.Post)) → to_z w64 (of_z w64 c.round_shift.result) ≡ round_shift (c.args.delta *ℤ pos c.args.j) 16
moved c = to_z-of_z {w = w64} (record { sfits = c.round_shift.type_inv }) ∙ rw (at w64 (step c.before) tt).is at c.round_shift.ensures

pub turn_on-requires : goal.turn_on-requires
turn_on-requires c =
    let v = c.args.delta *ℤ pos c.args.j in
    rw (moved c) (omega (arith, round_near v 16 (omega arith), (step c.before).size))

pub returns : goal.returns
unfolding phase_at
returns c = rw (moved c.before) at c.turn_on.ensures
