-- Numbers in a capture's bytes, least byte first.
use Rattle.std.specs.Prelude.{ℕ, ◌+◌, ◌*◌, ◌^◌, min, List, map, ◌++◌, ℤ, get_or, length, take, drop}
use Rattle.wire.specs.Wire.{four_of, signed}

-- the number of the four bytes from k on
unfoldable pub number_at : List ℕ → ℕ → ℕ
number_at s k = four_of (get_or s k 0) (get_or s (k + 1) 0) (get_or s (k + 2) 0) (get_or s (k + 3) 0)

-- the signed number of the two bytes from k on
unfoldable pub short_at : List ℕ → ℕ → ℤ
short_at s k = signed (2 ^ 15) (get_or s k 0 + 256 * get_or s (k + 1) 0)

-- a byte as a signed byte, byte k, and all
unfoldable pub signed_byte : ℕ → ℤ
signed_byte b = signed (2 ^ 7) b

unfoldable pub byte_at : List ℕ → ℕ → ℤ
byte_at s k = signed_byte (get_or s k 0)

unfoldable pub signed_bytes : List ℕ → List ℤ
signed_bytes s = map signed_byte s

-- a lent buffer after as many bytes of s are written from its start as both hold
unfoldable pub signed_into : List ℕ → List ℤ → List ℤ
signed_into s out = let n = min (length s) (length out) in signed_bytes (take n s) ++ drop n out
