-- The digest of a list: from 0 on, with each entry it is multiplied by 2,654,435,761 and the entry's 64 bits added, modulo 2^64. The factor
-- is odd, so that a single difference never goes away.
use Rattle.std.specs.Prelude.{ℕ, zero, suc, ◌+◌, ◌*◌, ◌%◌, ◌^◌, List, length, map, ℤ, slice_index}
use Rattle.wire.specs.Wire.{bits}

unfoldable pub mixed_of : ℕ → ℕ → ℕ
mixed_of d n = (2654435761 * d + n) % 2 ^ 64

-- of the first k entries, each by its 64 bits, and of all
unfoldable pub digest_to : {T : Type 0} → (T → ℕ) → List T → ℕ → ℕ
digest_to bits_of l zero = 0
digest_to bits_of l (suc k) = mixed_of (digest_to bits_of l k) (slice_index (map bits_of l) k)

unfoldable pub digest_by : {T : Type 0} → (T → ℕ) → List T → ℕ
digest_by bits_of l = digest_to bits_of l (length l)

-- of signed numbers, of naturals
abbrev pub digest_of : List ℤ → ℕ
digest_of l = digest_by bits l

abbrev pub naturals_of : List ℕ → ℕ
naturals_of l = digest_by (λ n. n) l
