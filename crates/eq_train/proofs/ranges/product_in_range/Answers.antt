-- `eq_train::ranges::product_in_range` meets its contract. Assumes nothing.
use Prim.Native.Nat.{ℕ, zero, suc, ◌+◌, ◌*◌, ◌^◌, ◌<◌}
use borrow.Author.Tests.{le-leb, lt-leb}
use lib.Dec.{leb}
use lib.IntN.{ℤ, pos, negsuc, nat_abs, ◌-ℤ◌, +ℤ_idl}
use lib.Signed.{le_z}
use mathlib.Core.Bool.{◌&&◌}
use mathlib.Core.Path.{◌≡◌, sym}
use mir.Facts.{to_z-of_z, to_z_pos}
use mir.Syntax.{w64}
use mir.Val.{SFits, to_z}
use native.Mathlib.Nat.{le_refl}
use native.Mathlib.Omega.{arith}
use Rattle.laws.specs.Choice.{minus}
use Rattle.laws.proofs.Size.{Num, abs_sub, less, lit, sfits_abs, within_abs}
use Rattle.eq_train.specs.Ranges.{product_in_range}
use Rattle.eq_train.proofs.ranges.product_in_range.Goals as goal

-- a bound below, of the other sign
below : (m : ℕ) → m < 2 ^ 63 → Num (to_z w64 m) (pos m) m
below m h = record { is = to_z_pos w64 {n = m} (omega (arith, h)); size = le_refl m }

down : (m : ℕ) → m < 2 ^ 63 → Num (pos 0 -ℤ to_z w64 m) (pos 0 -ℤ pos m) (0 + m)
down m h = less (lit 0) (below m h)

zero-less : (m : ℕ) → pos 0 -ℤ pos m ≡ minus m
zero-less m = +ℤ_idl (minus m)

at_zero : (a : ℕ) → (leb 0 a && leb a 0) ≡ leb a 0
at_zero a = rw (le-leb 0 a (omega arith))

within-size : (z : ℤ) (m : ℕ) → (le_z (minus m) z && le_z z (pos m)) ≡ leb (nat_abs z) m
within-size (pos a) zero = at_zero a
within-size (negsuc a) zero = sym (lt-leb (suc a) 0 (omega arith))
within-size z (suc m) = within_abs z m

low_fits : (m : ℕ) → m < 2 ^ 63 → SFits w64 (pos 0 -ℤ to_z w64 m)
low_fits m h = sfits_abs w64 (pos 0 -ℤ to_z w64 m) (rw (down m h).is (omega (arith, abs_sub (pos 0) (pos m), h)))

pub overflow_sub-result : goal.overflow_sub-result
overflow_sub-result c = low_fits (c.args.n * 2147418112) (omega (arith, c.ranges.n.fits))

pub overflow_sub-result-2 : goal.overflow_sub-result-2
overflow_sub-result-2 c = low_fits (c.args.n * 2147450880) (omega (arith, c.ranges.n.fits))

pub returns : goal.returns
unfolding product_in_range
returns c =
    let n = c.args.n in
    let low = n * 2147418112 in
    let high = n * 2147483648 in
    let turn = n * 2147450880 in
    let f = c.ranges.n.fits in
    rw (
      to_z-of_z (low_fits low (omega (arith, f))),
      to_z-of_z (low_fits turn (omega (arith, f))),
      to_z_pos w64 {n = low} (omega (arith, f)),
      to_z_pos w64 {n = high} (omega (arith, f)),
      to_z_pos w64 {n = turn} (omega (arith, f)),
      to_z-of_z c.ranges.re,
      to_z-of_z c.ranges.im,
      zero-less low,
      zero-less turn,
      within-size c.args.im turn,
    )
