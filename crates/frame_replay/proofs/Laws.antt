-- Laws of the definitions of frame_replay that its proofs cite. Assumes nothing.
use mathlib.Core.List.{List}
use mathlib.Core.Path.{◌≡◌, sym}
use Prim.Native.Nat.{ℕ, ◌≤◌}
use lib.ListN.{length, get_or-eq_default}
use Rattle.laws.proofs.Lists.{length-firsts}
use Rattle.wire.specs.Wire.{byte_at, packed_of, numbers_of}
use Rattle.fields.specs.Fields.{at}
use Rattle.frame_replay.specs.declared.kept.Kept.{Kept}
use Rattle.frame_replay.specs.Calls.{plain}
use Rattle.frame_replay.specs.Replay.{turns, aligned_of, turn_of, answer_bytes}

-- a call that there is not
pub aligned_none : (n : ℕ) (p : List ℕ) (k : Kept) → 6 ≤ n → plain k 255 ≡ aligned_of n p k
unfolding aligned_of
aligned_none n p k h = sym (get_or-eq_default (turns p k) (plain k 255) h)

-- an answer has 192 bytes, as a call has
pub length_answer : (k : Kept) (s : List ℕ) → length (answer_bytes k s) ≡ 192
unfolding answer_bytes packed_of
length_answer k s = let p = numbers_of s in length-firsts (byte_at (turn_of (at p 0) p k).told) 192
