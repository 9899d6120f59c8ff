-- "The equaliser has 11 taps with 14 fraction bits." Line and taps are pairs, real part before imaginary part; the line's newest symbol comes first,
-- so that tap k meets the symbol five after the output's own less k.
use Rattle.std.specs.Prelude.{ℕ, zero, suc, ◌+◌, ◌*◌, List, ◌∷◌, ℤ, pos, ◌+ℤ◌, ◌-ℤ◌, ◌*ℤ◌, get_or, set, take, replicate}
use Rattle.fx.specs.Fx.{round_shift, sat16_of}
use Rattle.fx.specs.declared.Parts.{Parts}
use Rattle.angles.specs.declared.Symbol.{Symbol}

-- the line with one more symbol: the oldest goes
unfoldable pub line_after : List ℤ → ℤ → ℤ → List ℤ
line_after line i q = i ∷ q ∷ take 20 line

-- eleven symbols of zero
unfoldable pub no_line : List ℤ
no_line = replicate 22 (pos 0)

-- 1 at the centre, which is tap 5, and 0 elsewhere
unfoldable pub identity_taps : List ℤ
identity_taps = set (replicate 22 (pos 0)) 10 (pos 16384)

-- the product of a tap and a symbol, added
unfoldable pub term_added : Parts → ℤ → ℤ → ℤ → ℤ → Parts
term_added a wr wi xr xi = record { re = a.re +ℤ (wr *ℤ xr -ℤ wi *ℤ xi); im = a.im +ℤ (wr *ℤ xi +ℤ wi *ℤ xr) }

-- number k of a list
abbrev pub nth : List ℤ → ℕ → ℤ
nth l k = get_or l k (pos 0)

-- the sum of the first n taps times their symbols
unfoldable pub filtered : List ℤ → List ℤ → ℕ → Parts
filtered taps line zero = record { re = pos 0; im = pos 0 }
filtered taps line (suc k) = term_added (filtered taps line k) (nth taps (2 * k)) (nth taps (2 * k + 1)) (nth line (2 * k)) (nth line (2 * k + 1))

-- all eleven, rounded by the taps' 14 bits and saturated
unfoldable pub output_of : List ℤ → List ℤ → Symbol
output_of taps line = let a = filtered taps line 11 in record { i = sat16_of (round_shift a.re 14); q = sat16_of (round_shift a.im 14) }
