-- `fx_replay::call::answer` meets its contract. Assumes nothing.
use native.Mathlib.Omega.{arith}
use mathlib.Core.Path.{◌≡◌, ◌∙◌}
use Prim.Native.Nat.{ℕ, ◌^◌}
use mir.Facts.{to_z-of_z}
use mir.Syntax.{w64}
use mir.Val.{to_z, of_z, SFits}
use lib.IntN.{ℤ}
use Rattle.wire.specs.Wire.{signed}
use Rattle.fx_replay.specs.Replay.{answer_of}
use Rattle.fx_replay.proofs.Laws.{answer_none}
use Rattle.fx_replay.proofs.call.answer.Goals as goal

-- a field as a signed number
wide : (z : ℤ) (a : ℕ) → SFits w64 z → z ≡ signed (2 ^ 63) a → to_z w64 (of_z w64 z) ≡ signed (2 ^ 63) a
wide z a f e = to_z-of_z f ∙ e

pub returns-in-0 : goal.returns-in-0
unfolding answer_of
returns-in-0 c = rw (c.in-0.is, c.single.ensures, rw (wide _ _ (record { sfits = c.of_bits-x.type_inv }) c.of_bits-x.ensures, c.of_bits.ensures) at c.sv_round_shift.ensures)

pub returns-in-1 : goal.returns-in-1
unfolding answer_of
returns-in-1 c = rw (c.in-1.is, c.single-in-1.ensures, rw (wide _ _ (record { sfits = c.of_bits-x.type_inv }) c.of_bits-x.ensures) at c.sv_sat16.ensures)

pub returns-in-2 : goal.returns-in-2
unfolding answer_of
returns-in-2 c = rw (c.in-2.is, c.single-in-2.ensures, rw (wide _ _ (record { sfits = c.of_bits-x.type_inv }) c.of_bits-x.ensures) at c.sv_sat127.ensures)

pub returns-in-3 : goal.returns-in-3
unfolding answer_of
returns-in-3 c = rw (c.in-3.is, c.single-in-3.ensures, rw (wide _ _ (record { sfits = c.of_bits-x.type_inv }) c.of_bits-x.ensures) at c.sv_sat32.ensures)

pub returns-in-4 : goal.returns-in-4
unfolding answer_of
returns-in-4 c = rw (c.in-4.is, c.single-in-4.ensures, rw (wide _ _ (record { sfits = c.of_bits-x.type_inv }) c.of_bits-x.ensures, wide _ _ (record { sfits = c.of_bits-y.type_inv }) c.of_bits-y.ensures) at c.sv_mag_approx.ensures)

pub returns-in-5 : goal.returns-in-5
unfolding answer_of
returns-in-5 c = rw (c.in-5.is, rw (wide _ _ (record { sfits = c.of_bits-x.type_inv }) c.of_bits-x.ensures, wide _ _ (record { sfits = c.of_bits-y.type_inv }) c.of_bits-y.ensures) at c.sv_cordic.ensures)

pub returns-in-6 : goal.returns-in-6
unfolding answer_of
returns-in-6 c = rw (c.in-6.is, rw (wide _ _ (record { sfits = c.of_bits-x.type_inv }) c.of_bits-x.ensures, wide _ _ (record { sfits = c.of_bits-y.type_inv }) c.of_bits-y.ensures) at c.sv_cordic_scale.ensures)

pub returns-in-7 : goal.returns-in-7
unfolding answer_of
returns-in-7 c = rw (c.in-7.is, to_z-of_z {w = w64} (record { sfits = c.sv_signed_angle.type_inv }), rw c.of_bits-in-7.ensures at c.sv_signed_angle.ensures)

pub returns-in-8 : goal.returns-in-8
unfolding answer_of
returns-in-8 c = rw (c.in-8.is, rw c.of_bits-in-8.ensures at c.sv_cos_sin_trunc.ensures)

pub returns-in-9 : goal.returns-in-9
unfolding answer_of
returns-in-9 c = rw (c.in-9.is, rw c.of_bits-in-9.ensures at c.sv_cos_sin_round.ensures)

pub returns-in-10 : goal.returns-in-10
unfolding answer_of
returns-in-10 c = rw (c.in-10.is, c.single-in-10.ensures, rw (wide _ _ (record { sfits = c.of_bits-x.type_inv }) c.of_bits-x.ensures, wide _ _ (record { sfits = c.of_bits-y.type_inv }) c.of_bits-y.ensures) at c.sv_div_round.ensures)

pub returns-in_default : goal.returns-in_default
returns-in_default c = let s = c.args in answer_none s.table.now s.op s.a s.b (omega arith)
