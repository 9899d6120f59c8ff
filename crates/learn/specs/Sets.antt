-- Where things stand: "the sets of 1 to 5 bits in turn, 124 i16". A set of b bits has 2^b labels, and two numbers to a label, I before Q.
use Rattle.std.specs.Prelude.{ℕ, ◌+◌, ◌-◌, ◌*◌, ◌%◌, ◌^◌, ◌≤◌, Bool, ◌||◌, List, ◌++◌, ltb, ℤ, take, drop}

pub record Bits (bits : ℕ) : Type 0 where
  pub some : 1 ≤ bits
  pub few : bits ≤ 5

-- 4, "bits outside 1..5"
abbrev pub bad_bits : ℕ → Bool
bad_bits bits = ltb bits 1 || ltb 5 bits

-- the place of a set's first label: the sets of fewer bits have 2 + 4 + .. labels, 2^bits - 2 together
abbrev pub first_place : ℕ → ℕ
first_place bits = 2 ^ bits - 2

-- the place of the label of pilot t, which is t mod 2^bits
unfoldable pub place_of : ℕ → ℕ → ℕ
place_of bits t = first_place bits + t % 2 ^ bits

-- ---- a set among the 124 numbers: where it starts, and how many it has
abbrev pub set_start : ℕ → ℕ
set_start bits = 2 * first_place bits

abbrev pub set_size : ℕ → ℕ
set_size bits = 2 * 2 ^ bits

-- its part of them
unfoldable pub set_of : ℕ → List ℤ → List ℤ
set_of bits xs = take (set_size bits) (drop (set_start bits) xs)

-- all of them with another part for it
unfoldable pub with_set : ℕ → List ℤ → List ℤ → List ℤ
with_set bits part xs = take (set_start bits) xs ++ (part ++ drop (set_start bits + set_size bits) xs)
