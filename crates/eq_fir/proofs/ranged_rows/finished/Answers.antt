-- The sum of two numbers of 32 bits, one of them times 256, is far from 2^60. Assumes nothing.
use Rattle.eq_fir.specs.Rows.{finished_of}
use Rattle.laws.proofs.Size.{arg, at, back, fits, lit, plus, times}
use mir.Syntax.{w16, w64}
use native.Mathlib.Omega.{arith}
use Rattle.eq_fir.proofs.ranged_rows.finished.Goals as goal

pub overflow_cast-high : goal.overflow_cast-high
overflow_cast-high c = fits w64 (arg c.ranges.high) tt

pub overflow_mul-high : goal.overflow_mul-high
overflow_mul-high c = fits w64 (times (at w64 (arg c.ranges.high) tt) (lit 256)) tt

pub overflow_cast-low : goal.overflow_cast-low
overflow_cast-low c = fits w64 (arg c.ranges.low) tt

pub overflow_add-high : goal.overflow_add-high
overflow_add-high c = fits w64 (plus (at w64 (times (at w64 (arg c.ranges.high) tt) (lit 256)) tt) (at w64 (arg c.ranges.low) tt)) tt

pub round_shift-requires : goal.round_shift-requires
round_shift-requires c =
    let n = at w64 (plus (at w64 (times (at w64 (arg c.ranges.high) tt) (lit 256)) tt) (at w64 (arg c.ranges.low) tt)) tt in
    rw n.is (omega (arith, n.size), omega arith)

pub returns : goal.returns
unfolding finished_of
returns c =
    let n = at w64 (plus (at w64 (times (at w64 (arg c.ranges.high) tt) (lit 256)) tt) (at w64 (arg c.ranges.low) tt)) tt in
    rw (back w16 c.sat16.result c.sat16.type_inv, c.sat16.ensures, back w64 c.round_shift.result c.round_shift.type_inv, c.round_shift.ensures, n.is)
