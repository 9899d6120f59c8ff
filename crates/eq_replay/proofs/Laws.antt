-- Laws of the definitions of eq_replay that its proofs cite. Assumes nothing.
use mathlib.Core.List.{List}
use mathlib.Core.Path.{◌≡◌}
use Prim.Native.Nat.{ℕ}
use lib.ListN.{length, get_or}
use Rattle.laws.proofs.Lists.{length-firsts}
use Rattle.wire.specs.Wire.{byte_at, packed_of, numbers_of}
use Rattle.eq_calls.specs.declared.kept.Kept.{Kept}
use Rattle.eq_calls.specs.Turns.{turn_of}
use Rattle.eq_replay.specs.Replay.{answer_bytes}

-- an answer has 192 bytes, as a call has
pub length_answer : (k : Kept) (s : List ℕ) → length (answer_bytes k s) ≡ 192
unfolding answer_bytes packed_of
length_answer k s = let p = numbers_of s in length-firsts (byte_at (turn_of (get_or p 0 0) p k).told) 192
