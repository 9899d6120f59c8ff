-- Back substitution, and the solution.
use Rattle.std.specs.Prelude.{List, ℕ, zero, suc, ◌+◌, ◌-◌, replicate, Result, Float}
use Rattle.std.specs.Result.{result_map_both}
use Rattle.std.specs.Float.{binary64}
use Rattle.std.specs.Float.Ieee.{of_bits}
use Rattle.refusal.specs.declared.Refusal.{Refusal}
use Rattle.solve_step.specs.Complex.{difference_of, product_of, quotient_of, entry_at, with_entry, place}
use Rattle.solve_step.specs.Eliminate.{reduce_from}
use Rattle.solve_step.specs.declared.complex.Complex.{Complex}
use Rattle.solve_step.specs.declared.System.{System}

-- s less the products of row r with the unknowns, n columns from k on still to be done
unfoldable pub rest_from : List Float → List Float → ℕ → ℕ → Complex → ℕ → Complex
rest_from a x r k s zero = s
rest_from a x r k s (suc n) = rest_from a x r (suc k) (difference_of s (product_of (entry_at a (place r k)) (entry_at x k))) n

-- the unknown of row r, from those after it
unfoldable pub unknown_at : List Float → List Float → List Float → ℕ → Complex
unknown_at a b x r = quotient_of (rest_from a x r (r + 1) (entry_at b r) (11 - (r + 1))) (entry_at a (place r r))

-- the rows below r are still to be solved, from r - 1 up
unfoldable pub back_from : System → List Float → ℕ → List Float
back_from s x zero = x
back_from s x (suc r) = back_from s (with_entry x r (unknown_at s.a s.b x r)) r

-- 11 pairs of 0
unfoldable pub none_yet : List Float
none_yet = replicate 22 (of_bits binary64 0)

-- 10, "a column's greatest squared magnitude is under 1e-24"; else the unknowns
unfoldable pub solution_of : System → Result (List Float) Refusal
solution_of s = result_map_both (λ t. back_from t none_yet 11) (λ why. why) (reduce_from s 0 11)
