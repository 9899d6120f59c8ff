-- "Taps round halves away from zero and saturate; NaN gives 0." A tap has 14 fraction bits: it is 16,384 times the unknown's part, a product
-- that is exact unless it overflows, and then saturates.
use Rattle.std.specs.Prelude.{ℕ, ◌+◌, ◌-◌, ◌*◌, ◌/◌, ◌^◌, min, List, replicate, ℤ, pos, from_bits, slice_index_or, Float}
use Rattle.std.specs.Float.{nan, inf, fin, binary64}
use Rattle.std.specs.Float.Ieee.{mul, up, down}
use Rattle.laws.specs.Choice.{when◌then◌else◌, minus}
use Rattle.laws.specs.Ranges.{firsts}

-- a / d rounded to the nearest whole number, halves up: the floor of a / d + 1/2
abbrev pub nearest_of : ℕ → ℕ → ℕ
nearest_of a d = (2 * a + d) / (2 * d)

-- the size of a double so rounded, at most 2^15; `fin s m e` is m × 2^e, which is m × up e / down e
unfoldable pub size_of : Float → ℕ
size_of nan = 0
size_of (inf s) = 2 ^ 15
size_of (fin s m e) = min (nearest_of (m * up e) (down e)) (2 ^ 15)

-- .. and with its sign, within -2^15 .. 2^15 - 1
unfoldable pub rounded_of : Float → ℤ
rounded_of nan = pos 0
rounded_of (inf s) = when s then minus (2 ^ 15) else pos (2 ^ 15 - 1)
rounded_of (fin s m e) = when s then minus (min (nearest_of (m * up e) (down e)) (2 ^ 15)) else pos (min (nearest_of (m * up e) (down e)) (2 ^ 15 - 1))

-- times 16,384
unfoldable pub tap_of : Float → ℤ
tap_of v = rounded_of (mul binary64 v (from_bits binary64 0x40d0_0000_0000_0000))

unfoldable pub taps_of : List Float → List ℤ
taps_of x = firsts (λ k. tap_of (slice_index_or x k nan)) 22

unfoldable pub no_taps : List ℤ
no_taps = replicate 22 (pos 0)
