-- "Each complex number is a pair of f64", "every operation rounded once": each plus, less, times and over below is one operation of IEEE 754 on
-- doubles, rounded to the nearest, ties to even. No operation here branches; NaNs and infinities go through them.
use Rattle.std.specs.Prelude.{List, ℕ, ◌+◌, ◌*◌, get_or, set, Float}
use Rattle.std.specs.Float.{nan, binary64}
use Rattle.std.specs.Float.Ieee.{add, sub, mul, div, neg}
use Rattle.solve_step.specs.declared.complex.Complex.{Complex}

abbrev pub plus : Float → Float → Float
plus x y = add binary64 x y

abbrev pub less : Float → Float → Float
less x y = sub binary64 x y

abbrev pub times : Float → Float → Float
times x y = mul binary64 x y

abbrev pub over : Float → Float → Float
over x y = div binary64 x y

abbrev pub sum_of : Complex → Complex → Complex
sum_of x y = record { re = plus x.re y.re; im = plus x.im y.im }

abbrev pub difference_of : Complex → Complex → Complex
difference_of x y = record { re = less x.re y.re; im = less x.im y.im }

abbrev pub product_of : Complex → Complex → Complex
product_of x y =
    record {
      re = less (times x.re y.re) (times x.im y.im);
      im = plus (times x.re y.im) (times x.im y.re);
    }

-- "re × re + im × im"
abbrev pub squared_of : Complex → Float
squared_of x = plus (times x.re x.re) (times x.im x.im)

-- "A quotient multiplies by the conjugate and divides each part by that squared magnitude."
abbrev pub quotient_of : Complex → Complex → Complex
quotient_of x y =
    record {
      re = over (plus (times x.re y.re) (times x.im y.im)) (squared_of y);
      im = over (less (times x.im y.re) (times x.re y.im)) (squared_of y);
    }

-- 0 becomes -0
abbrev pub conjugate_of : Complex → Complex
conjugate_of x = record { re = x.re; im = neg x.im }

-- the k-th pair of a flat list, and the list with another there
unfoldable pub entry_at : List Float → ℕ → Complex
entry_at l k = record { re = get_or l (2 * k) nan; im = get_or l (2 * k + 1) nan }

unfoldable pub with_entry : List Float → ℕ → Complex → List Float
with_entry l k v = set (set l (2 * k) v.re) (2 * k + 1) v.im

-- row r and column c of the matrix
abbrev pub place : ℕ → ℕ → ℕ
place r c = r * 11 + c
