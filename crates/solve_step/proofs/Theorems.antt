-- What the definitions of solve_step mean. Each statement stands above its proof. Assumes nothing.
use mathlib.Core.Bool.{true, false}
use mathlib.Core.Path.{◌≡◌, refl}
use Prim.Native.Nat.{ℕ, ◌^◌}
use lib.Ieee.{Float, nan, inf, fin, binary64, of_bits, round, lt, le, neg}
use lib.IntN.{pos}
use Rattle.laws.specs.Choice.{if_yes, if_no}
use Rattle.solve_step.specs.Complex.{conjugate_of}
use Rattle.solve_step.specs.Pivot.{tiny, better_of, judged_of}
use Rattle.solve_step.specs.declared.pivot.Best.{Best}
use Rattle.std.specs.Prelude.{Ok}

-- ---- THE LIMIT of the pivot is the double nearest to 1 / 10^24: IEEE 754's rounding of that fraction
pub tiny_theorem : tiny ≡ round binary64 false 1 (10 ^ 24)
unfolding of_bits round
tiny_theorem = refl

-- ---- A NaN: it takes over from no row, no row takes over from it, and it is a row, not too small
least : (x : Float) → le x nan ≡ false
unfolding le
least nan = refl
least (inf s) = refl
least (fin s m e) = refl

first : (x : Float) → le nan x ≡ false
unfolding le
first x = refl

pub nan_takes_nothing : (b : Best) (r : ℕ) → better_of b r nan ≡ b
unfolding better_of
nan_takes_nothing b r = if_no _ _ _ (least b.size)

pub nan_stays : (p r : ℕ) (z : Float) → better_of (record { row = p; size = nan }) r z ≡ record { row = p; size = nan }
unfolding better_of
nan_stays p r z = if_no _ _ _ (first z)

pub nan_is_a_row : (p : ℕ) → judged_of (record { row = p; size = nan }) ≡ Ok (record { row = p; size = nan })
unfolding judged_of lt
nan_is_a_row p = if_no _ _ _ refl

-- ---- AN EQUAL SIZE takes over: of two rows of size 1 the later one
pub equal_takes_over : better_of (record { row = 3; size = fin false 1 (pos 0) }) 4 (fin false 1 (pos 0)) ≡ record { row = 4; size = fin false 1 (pos 0) }
unfolding better_of le
equal_takes_over = if_yes _ _ _ refl

-- ---- THE CONJUGATE of a number with imaginary part 0 has -0 there, which is another double
pub conjugate_of_real : (x : Float) → conjugate_of (record { re = x; im = fin false 0 (pos 0) }) ≡ record { re = x; im = fin true 0 (pos 0) }
unfolding neg
conjugate_of_real x = refl
