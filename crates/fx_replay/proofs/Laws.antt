-- Laws of the definitions of fx_replay that its proofs cite. Assumes nothing.
use mathlib.Core.List.{List}
use mathlib.Core.Path.{◌≡◌, refl, sym}
use Prim.Native.Nat.{ℕ, ◌≤◌, ◌%◌, ◌^◌}
use lib.IntN.{ℤ}
use lib.ListN.{length, get_or-eq_default}
use Rattle.fx_replay.specs.Replay.{answers, no_call, answer_of, answer_bytes, encoded}
use Rattle.wire.specs.Wire.{signed, bytes_of}

-- a function that there is not
pub answer_none : (t : List ℤ) (op a b : ℕ) → 11 ≤ op → no_call ≡ answer_of t op a b
unfolding answer_of
answer_none t op a b h = sym (get_or-eq_default (answers t (signed (2 ^ 63) a) (signed (2 ^ 63) b) (a % 2 ^ 32) (b % 2 ^ 32)) no_call h)

-- an answer has 24 bytes, as a call has
pub length_answer : (t : List ℤ) (s : List ℕ) → length (answer_bytes t s) ≡ 24
unfolding answer_bytes encoded bytes_of
length_answer t s = refl
