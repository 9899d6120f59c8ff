-- Numbers as bytes, least byte first.
use Rattle.std.specs.Prelude.{ℕ, ◌+◌, ◌-◌, ◌*◌, ◌/◌, ◌%◌, ◌^◌, List, [], ◌∷◌, ltb, ℤ, pos, negsuc, get_or}
use Rattle.laws.specs.Choice.{when◌then◌else◌}
use Rattle.laws.specs.Ranges.{firsts}

-- the number of four bytes
abbrev pub four_of : ℕ → ℕ → ℕ → ℕ → ℕ
four_of a b c d = a + 256 * b + 256 ^ 2 * c + 256 ^ 3 * d

-- the number of the eight bytes of s from k on
unfoldable pub word_at : List ℕ → ℕ → ℕ
word_at s k =
    four_of (get_or s k 0) (get_or s (k + 1) 0) (get_or s (k + 2) 0) (get_or s (k + 3) 0)
    + 2 ^ 32 * four_of (get_or s (k + 4) 0) (get_or s (k + 5) 0) (get_or s (k + 6) 0) (get_or s (k + 7) 0)

-- number k of s, and the first 24
unfoldable pub number_at : List ℕ → ℕ → ℕ
number_at s k = word_at s (8 * k)

unfoldable pub numbers_of : List ℕ → List ℕ
numbers_of s = firsts (number_at s) 24

-- the signed number of u's bits, where those of half and more are negative: -1 has all bits set
unfoldable pub signed : ℕ → ℕ → ℤ
signed half u = when ltb u half then pos u else negsuc (2 * half - 1 - u)

-- the 64 bits of a signed number
unfoldable pub bits : ℤ → ℕ
bits (pos n) = n
bits (negsuc n) = 2 ^ 64 - 1 - n

-- byte k of u, and all eight
unfoldable pub byte_of : ℕ → ℕ → ℕ
byte_of u k = u / 256 ^ k % 256

unfoldable pub bytes_of : ℕ → List ℕ
bytes_of u = byte_of u 0 ∷ byte_of u 1 ∷ byte_of u 2 ∷ byte_of u 3 ∷ byte_of u 4 ∷ byte_of u 5 ∷ byte_of u 6 ∷ byte_of u 7 ∷ []

-- byte i of a list of numbers, and all bytes of 24
unfoldable pub byte_at : List ℕ → ℕ → ℕ
byte_at l i = byte_of (get_or l (i / 8) 0) (i % 8)

unfoldable pub packed_of : List ℕ → List ℕ
packed_of l = firsts (byte_at l) 192

-- entry i of a table of i16, and the carrier table
unfoldable pub entry_at : List ℕ → ℕ → ℤ
entry_at s i = signed (2 ^ 15) (get_or s (2 * i) 0 + 256 * get_or s (2 * i + 1) 0)

unfoldable pub entries_of : List ℕ → List ℤ
entries_of s = firsts (entry_at s) 1024
