-- The elimination of `solve`, in its order: each step takes the system and gives the next. A loop is a recursion on the turns that are left.
use Rattle.std.specs.Prelude.{List, ℕ, zero, suc, ◌+◌, ◌-◌, Result, Ok, Err, Float}
use Rattle.refusal.specs.declared.Refusal.{Refusal}
use Rattle.refusal.specs.declared.Refusal.TheVariants.{Pivot}
use Rattle.solve_step.specs.Complex.{difference_of, product_of, quotient_of, entry_at, with_entry, place}
use Rattle.solve_step.specs.Pivot.{pivot_of}
use Rattle.solve_step.specs.declared.complex.Complex.{Complex}
use Rattle.solve_step.specs.declared.System.{System}

abbrev pub system_of : List Float → List Float → System
system_of a b = record { a = a; b = b }

-- ---- rows c and p change places
unfoldable pub entry_swap : List Float → ℕ → ℕ → List Float
entry_swap l i j = with_entry (with_entry l i (entry_at l j)) j (entry_at l i)

-- n columns from k on are still to be done
unfoldable pub swap_from : List Float → ℕ → ℕ → ℕ → ℕ → List Float
swap_from a c p k zero = a
swap_from a c p k (suc n) = swap_from (entry_swap a (place c k) (place p k)) c p (suc k) n

-- ---- row r less f times the pivot's row c, from column c on: the product first, then the difference; entry i less f times entry j
unfoldable pub entry_less : List Float → ℕ → ℕ → Complex → List Float
entry_less a i j f = with_entry a i (difference_of (entry_at a i) (product_of f (entry_at a j)))

abbrev pub entry_step : List Float → ℕ → ℕ → Complex → ℕ → List Float
entry_step a c r f k = entry_less a (place r k) (place c k) f

-- n columns from k on are still to be done
unfoldable pub row_from : List Float → ℕ → ℕ → Complex → ℕ → ℕ → List Float
row_from a c r f k zero = a
row_from a c r f k (suc n) = row_from (entry_step a c r f k) c r f (suc k) n

abbrev pub right_step : List Float → ℕ → ℕ → Complex → List Float
right_step b c r f = entry_less b r c f

-- f is the entry under the pivot by the pivot
unfoldable pub factor_of : List Float → ℕ → ℕ → Complex
factor_of a c r = quotient_of (entry_at a (place r c)) (entry_at a (place c c))

unfoldable pub row_step : System → ℕ → ℕ → System
row_step s c r =
    let f = factor_of s.a c r in
    system_of (row_from s.a c r f c (11 - c)) (right_step s.b c r f)

-- n rows from r on are still to be done
unfoldable pub rows_from : System → ℕ → ℕ → ℕ → System
rows_from s c r zero = s
rows_from s c r (suc n) = rows_from (row_step s c r) c (suc r) n

-- ---- column c, whose pivot stands in row p
unfoldable pub column_step : System → ℕ → ℕ → System
column_step s c p = rows_from (system_of (swap_from s.a c p 0 11) (entry_swap s.b c p)) c (c + 1) (11 - (c + 1))

-- n columns from c on are still to be done; it stops at a pivot that is too small
unfoldable pub reduce_from : System → ℕ → ℕ → Result System Refusal
reduce_from s c zero = Ok s
reduce_from s c (suc n) =
    elim (pivot_of s.a c) [
      | Ok best ↦ reduce_from (column_step s c best.row) (suc c) n
      | Err small ↦ Err Pivot
    ]
