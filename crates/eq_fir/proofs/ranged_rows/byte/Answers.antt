-- The high byte is the floor of the number over 256, and the low byte the rest. Assumes nothing.
use Rattle.eq_fir.proofs.Bytes.{high_fits, high_small, low_small}
use Rattle.eq_fir.specs.Rows.{byte_of}
use Rattle.laws.proofs.Size.{sfits_abs}
use Rattle.laws.specs.Choice.{cases}
use lib.IntN.{◌*ℤ◌, ◌-ℤ◌, pos}
use lib.Signed.{shr_z}
use mir.Facts.{to_z-of_z}
use mir.Syntax.{w16}
use mir.Val.{SFits}
use native.Mathlib.Omega.{arith}
use Rattle.eq_fir.proofs.ranged_rows.byte.Goals as goal

pub overflow_mul-result : goal.overflow_mul-result
overflow_mul-result c =
    let w = c.args.w in
    let f = c.ranges.w in
    let h : SFits w16 (shr_z w 256) = sfits_abs w16 (shr_z w 256) (omega (arith, high_small w f.sfits)) in
    rw (to_z-of_z f, to_z-of_z h) (high_fits w f.sfits)

pub overflow_sub-result : goal.overflow_sub-result
overflow_sub-result c =
    let w = c.args.w in
    let f = c.ranges.w in
    let h : SFits w16 (shr_z w 256) = sfits_abs w16 (shr_z w 256) (omega (arith, high_small w f.sfits)) in
    let m = high_fits w f.sfits in
    let l : SFits w16 (w -ℤ shr_z w 256 *ℤ pos 256) = sfits_abs w16 (w -ℤ shr_z w 256 *ℤ pos 256) (omega (arith, low_small w)) in
    rw (to_z-of_z f, to_z-of_z h, to_z-of_z m) l

pub returns-then-high : goal.returns-then-high
unfolding byte_of
returns-then-high c =
    let w = c.args.w in
    let f = c.ranges.w in
    let h : SFits w16 (shr_z w 256) = sfits_abs w16 (shr_z w 256) (omega (arith, high_small w f.sfits)) in
    rw (to_z-of_z f, to_z-of_z h) (search cases, omega (arith, high_small w f.sfits))

pub returns-else-high : goal.returns-else-high
unfolding byte_of
returns-else-high c =
    let w = c.args.w in
    let f = c.ranges.w in
    let h : SFits w16 (shr_z w 256) = sfits_abs w16 (shr_z w 256) (omega (arith, high_small w f.sfits)) in
    let m = high_fits w f.sfits in
    let l : SFits w16 (w -ℤ shr_z w 256 *ℤ pos 256) = sfits_abs w16 (w -ℤ shr_z w 256 *ℤ pos 256) (omega (arith, low_small w)) in
    rw (to_z-of_z f, to_z-of_z h, to_z-of_z m, to_z-of_z l) (search cases, low_small w)
