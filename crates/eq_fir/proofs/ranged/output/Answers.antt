-- The two sums are far from 2^60, and each part is what the three calls on it give. Assumes nothing.
use Prim.Native.Nat.{◌<◌, ◌^◌}
use Rattle.eq_fir.specs.Fir.{output_of}
use Rattle.fx.specs.Fx.{round_shift, sat16_of}
use Rattle.laws.proofs.Size.{back}
use lib.IntN.{ℤ}
use lib.Signed.{mag}
use mathlib.Core.Path.{◌≡◌}
use mir.Syntax.{w16, w64}
use mir.Val.{of_z, to_z}
use native.Mathlib.Omega.{arith}
use Rattle.eq_fir.proofs.ranged.output.Goals as goal

-- a sum z, rounded to r and saturated to x
part : (f z r x : ℤ) → mag z < 2 ^ 63 → mag r < 2 ^ 63 → mag x < 2 ^ 15 → z ≡ f → r ≡ round_shift (to_z w64 (of_z w64 z)) 14 → x ≡ sat16_of (to_z w64 (of_z w64 r)) →
    to_z w16 (of_z w16 x) ≡ sat16_of (round_shift f 14)
part f z r x hz hr hx ez er ex = rw (back w16 x hx, ex, back w64 r hr, er, back w64 z hz, ez)

pub round_shift-requires : goal.round_shift-requires
round_shift-requires c =
    let s = c.sum_re-re in
    rw (back w64 s.result s.type_inv) (omega (arith, s.ensures.1), omega arith)

pub round_shift-requires-2 : goal.round_shift-requires-2
round_shift-requires-2 c =
    let s = c.sum_im-im in
    rw (back w64 s.result s.type_inv) (omega (arith, s.ensures.1), omega arith)

pub returns : goal.returns
unfolding output_of
returns c =
    let one = part _ c.sum_re-re.result c.round_shift.result c.sat16.result c.sum_re-re.type_inv c.round_shift.type_inv c.sat16.type_inv c.sum_re-re.ensures.0 c.round_shift.ensures c.sat16.ensures in
    let two = part _ c.sum_im-im.result c.round_shift-2.result c.sat16-2.result c.sum_im-im.type_inv c.round_shift-2.type_inv c.sat16-2.type_inv c.sum_im-im.ensures.0 c.round_shift-2.ensures c.sat16-2.ensures in
    rw (one, two)
