-- `phase::ranged::per_symbol` meets its contract. Assumes nothing.
use mathlib.Core.Path.{◌∙◌}
use Prim.Native.Nat.{◌*◌, ◌^◌}
use native.Mathlib.Omega.{arith}
use lib.IntN.{pos, ◌*ℤ◌}
use mir.Facts.{to_z-of_z}
use mir.Syntax.{w64}
use mir.Val.{to_z, of_z}
use Rattle.laws.proofs.Size.{Num, arg_le, times, lit, at, fits}
use Rattle.phase.specs.Phase.{per_symbol}
use Rattle.phase.proofs.ranged.per_symbol.Lts as lts
use Rattle.phase.proofs.ranged.per_symbol.Tie as tie
use Rattle.phase.proofs.ranged.per_symbol.Reads as reads
use Rattle.phase.proofs.ranged.per_symbol.Goals as goal

product : (c : (lts.Start tie.the-claims reads.Pre reads.Post)) → Num (to_z w64 (of_z w64 c.args.d) *ℤ pos 14784741) (c.args.d *ℤ pos 14784741) (2 ^ 31 * 14784741)
product c = times (arg_le (2 ^ 31) c.ranges.d c.requires) (lit 14784741)

pub overflow_mul-d : goal.overflow_mul-d
overflow_mul-d c = fits w64 (product c) tt

pub round_shift-requires : goal.round_shift-requires
round_shift-requires c = let n = at w64 (product c) tt in rw n.is (omega (arith, n.size), omega arith)

pub returns : goal.returns
unfolding per_symbol
returns c = to_z-of_z {w = w64} (record { sfits = c.round_shift.type_inv }) ∙ rw (at w64 (product c.before) tt).is at c.round_shift.ensures
