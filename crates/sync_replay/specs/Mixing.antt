-- The digest of all answers: it goes on from one answer to the next, by the step of the digests of lists.
use Rattle.std.specs.Prelude.{ℕ, zero, suc, List, slice_index}
use Rattle.digest.specs.Digest.{mixed_of}

-- digest d with the first k numbers of l
unfoldable pub mixed_to : ℕ → List ℕ → ℕ → ℕ
mixed_to d l zero = d
mixed_to d l (suc k) = mixed_of (mixed_to d l k) (slice_index l k)
