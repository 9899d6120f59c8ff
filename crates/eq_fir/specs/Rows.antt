-- How the filter is computed for many symbols: each number of the taps is split into a high and a low byte, and each part of an output is two sums
-- of products of the line with a row of such bytes. That this is the filter is a law (proofs/Filter.antt, `rows_output`).
use Rattle.std.specs.Prelude.{ℕ, zero, suc, ◌+◌, ◌-◌, ◌*◌, ◌/◌, ◌%◌, ◌≤◌, ◌<◌, Bool, List, ◌≡◌, eqb, leb, drop, ℤ, pos, nat_abs, neg_ℤ, ◌+ℤ◌, ◌-ℤ◌, ◌*ℤ◌}
use Rattle.std.specs.Int.Signed.{shr_z}
use Rattle.laws.specs.Choice.{when◌then◌else◌}
use Rattle.laws.specs.Ranges.{firsts}
use Rattle.fx.specs.Fx.{round_shift, sat16_of}
use Rattle.angles.specs.declared.Symbol.{Symbol}
use Rattle.eq_fir.specs.declared.Dots.{Dots}
use Rattle.eq_fir.specs.Fir.{nth}

-- the high or the low byte of w: 256 times the one and the other make w
unfoldable pub byte_of : Bool → ℤ → ℤ
byte_of high w = when high then shr_z w 256 else w -ℤ shr_z w 256 *ℤ pos 256

-- what number k of the line is multiplied by: wr and -wi in the real part, wi and wr in the imaginary part
unfoldable pub factor_at : List ℤ → Bool → Bool → ℕ → ℤ
factor_at taps imag high k =
    when imag
    then when eqb (k % 2) 0 then byte_of high (nth taps (k + 1)) else byte_of high (nth taps (k - 1))
    else when eqb (k % 2) 0 then byte_of high (nth taps k) else neg_ℤ (byte_of high (nth taps k))

-- 22 numbers with two zeros more, so that they are three vectors
unfoldable pub padded : List ℤ → List ℤ
padded l = firsts (nth l) 24

-- four rows of 24: high and low bytes for the real part, then for the imaginary part
unfoldable pub rows_of : List ℤ → List ℤ
rows_of taps = firsts (λ j. factor_at (padded taps) (leb 48 j) (eqb (j / 24 % 2) 0) (j % 24)) 96

-- the first n products of a line with the row that begins at b
unfoldable pub dot_to : List ℤ → List ℤ → ℕ → ℕ → ℤ
dot_to line rows b zero = pos 0
dot_to line rows b (suc n) = dot_to line rows b n +ℤ nth line n *ℤ nth rows (b + n)

unfoldable pub dots_of : List ℤ → List ℤ → Dots
dots_of line rows = record { rh = dot_to line rows 0 24; rl = dot_to line rows 24 24; ih = dot_to line rows 48 24; il = dot_to line rows 72 24 }

-- the sums of both bytes together, rounded and saturated
unfoldable pub finished_of : ℤ → ℤ → ℤ
finished_of high low = sat16_of (round_shift (high *ℤ pos 256 +ℤ low) 14)

unfoldable pub output_by : List ℤ → List ℤ → Symbol
output_by rows line =
    let s = dots_of (padded line) rows in
    record { i = finished_of s.rh s.rl; q = finished_of s.ih s.il }

-- number j of the outputs for lines within a buffer: the first begins at end, each of the others one symbol before the last
unfoldable pub outputs_by : List ℤ → List ℤ → ℕ → ℕ → ℤ
outputs_by rows buffer end j =
    let z = output_by rows (drop (end - 2 * (j / 2)) buffer) in
    when eqb (j % 2) 0 then z.i else z.q

-- the entries are bytes
pub record Bytes (rows : List ℤ) : Type 0 where
  pub small : (j : ℕ) → j < 96 → nat_abs (nth rows j) ≤ 255

-- the last two of each row meet no tap: they are zeros
pub record Ends (rows : List ℤ) : Type 0 where
  pub rh : (nth rows 22 ≡ pos 0) × (nth rows 23 ≡ pos 0)
  pub rl : (nth rows 46 ≡ pos 0) × (nth rows 47 ≡ pos 0)
  pub ih : (nth rows 70 ≡ pos 0) × (nth rows 71 ≡ pos 0)
  pub il : (nth rows 94 ≡ pos 0) × (nth rows 95 ≡ pos 0)
