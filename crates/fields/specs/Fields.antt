-- What the numbers of a call hold. A field takes as many low bits of its number as it has; a signed field's are two's complement. A flag is off
-- for 0 and on for any other number.
use Rattle.std.specs.Prelude.{ℕ, ◌+◌, ◌*◌, ◌%◌, ◌^◌, Bool, not, List, [], ◌∷◌, ◌++◌, eqb, ltb, ℤ, get_or, length, set, replicate}
use Rattle.laws.specs.Choice.{when◌then◌else◌}
use Rattle.laws.specs.Ranges.{firsts}
use Rattle.wire.specs.Wire.{signed}

-- number k; as fields of 8, 16 and 32 bits; as signed fields of 8, 16, 32 and 64 bits; and as a flag
abbrev pub at : List ℕ → ℕ → ℕ
at p k = get_or p k 0

abbrev pub at8 : List ℕ → ℕ → ℕ
at8 p k = at p k % 2 ^ 8

abbrev pub at16 : List ℕ → ℕ → ℕ
at16 p k = at p k % 2 ^ 16

abbrev pub at32 : List ℕ → ℕ → ℕ
at32 p k = at p k % 2 ^ 32

abbrev pub signed8 : List ℕ → ℕ → ℤ
signed8 p k = signed (2 ^ 7) (at p k % 2 ^ 8)

abbrev pub signed16 : List ℕ → ℕ → ℤ
signed16 p k = signed (2 ^ 15) (at p k % 2 ^ 16)

abbrev pub signed32 : List ℕ → ℕ → ℤ
signed32 p k = signed (2 ^ 31) (at p k % 2 ^ 32)

abbrev pub signed64 : List ℕ → ℕ → ℤ
signed64 p k = signed (2 ^ 63) (at p k)

abbrev pub on : List ℕ → ℕ → Bool
on p k = not (eqb (at p k) 0)

-- a flag as a number
unfoldable pub flag_of : Bool → ℕ
flag_of b = when b then 1 else 0

-- the 22 numbers from 2 on, each as its field has it; as signed fields of 16 bits
unfoldable pub parts_of : {T : Type 0} → (ℕ → T) → List ℕ → List T
parts_of low p = firsts (λ k. low (at p (k + 2))) 22

abbrev pub sixteens_of : List ℕ → List ℤ
sixteens_of p = parts_of (λ u. signed (2 ^ 15) (u % 2 ^ 16)) p

-- signed byte k of those from a place on; the word of 48 such bytes
unfoldable pub one_at : List ℕ → ℕ → ℕ → ℤ
one_at bytes from k = signed (2 ^ 7) (get_or bytes (from + k) 0 % 2 ^ 8)

unfoldable pub ones_at : List ℕ → ℕ → List ℤ
ones_at bytes from = firsts (one_at bytes from) 48

-- the 16 bits of two bytes, the low one first; of those from a place on
unfoldable pub pair_of : ℕ → ℕ → ℤ
pair_of low high = signed (2 ^ 15) ((low + 256 * high) % 2 ^ 16)

unfoldable pub pair_at : List ℕ → ℕ → ℤ
pair_at bytes k = pair_of (get_or bytes k 0) (get_or bytes (k + 1) 0)

-- ---- lent parts
-- the smaller
unfoldable pub least_of : ℕ → ℕ → ℕ
least_of n all = when ltb n all then n else all

-- number 1 names an entry, number 2 is its value, as the entries' field has it; of signed ones of 16 bits, of naturals of 32
unfoldable pub set_by : {T : Type 0} → (ℕ → T) → List ℕ → List T → List T
set_by low p l = when ltb (at p 1) (length l) then set l (at p 1) (low (at p 2)) else l

abbrev pub set_of : List ℕ → List ℤ → List ℤ
set_of p l = set_by (λ u. signed (2 ^ 15) (u % 2 ^ 16)) p l

abbrev pub set_natural_of : List ℕ → List ℕ → List ℕ
set_natural_of p l = set_by (λ u. u % 2 ^ 32) p l

-- ---- an answer of 24 numbers: a refusal, or 0, and three more; zeros behind them
unfoldable pub four_told : ℕ → ℕ → ℕ → ℕ → List ℕ
four_told refusal x y z = (refusal ∷ x ∷ y ∷ z ∷ []) ++ replicate 20 0
