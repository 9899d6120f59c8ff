-- The answers to calls, and what they leave.
use Rattle.std.specs.Prelude.{ℕ, ◌-◌, List, [], ◌∷◌, ltb, get_or}
use Rattle.laws.specs.Choice.{when◌then◌else◌}
use Rattle.wire.specs.Wire.{numbers_of, packed_of}
use Rattle.wire.specs.Blocks.{replayed as replayed_by, left}
use Rattle.fields.specs.Fields.{at}
use Rattle.frame_replay.specs.declared.kept.Kept.{Kept}
use Rattle.frame_replay.specs.declared.kept.Turn.{Turn}
use Rattle.frame_replay.specs.Calls.{plain, eq_call, new_call, restart_call, push_call, words_call, move_call, line_call}

-- ---- one call: number 0 tells which. In the order of the calls' numbers, from 16 on
abbrev pub turns : List ℕ → Kept → List Turn
turns p k = new_call k ∷ restart_call k ∷ push_call k p ∷ words_call k p ∷ move_call k p ∷ line_call k p ∷ []

-- refusal 255 where there is no such call
unfoldable pub aligned_of : ℕ → List ℕ → Kept → Turn
aligned_of n p k = get_or (turns p k) n (plain k 255)

unfoldable pub turn_of : ℕ → List ℕ → Kept → Turn
turn_of op p k = when ltb op 16 then eq_call op k p else aligned_of (op - 16) p k

-- ---- calls as bytes
unfoldable pub answer_bytes : Kept → List ℕ → List ℕ
answer_bytes k s = let p = numbers_of s in packed_of (turn_of (at p 0) p k).told

unfoldable pub after : Kept → List ℕ → Kept
after k s = let p = numbers_of s in (turn_of (at p 0) p k).kept

-- the answers to the first n calls of s, each of 192 bytes, and what follows those calls
abbrev pub replayed : Kept → ℕ → List ℕ → List ℕ
replayed k n s = replayed_by 192 answer_bytes after k n s

-- .. and what those calls leave
abbrev pub left_of : Kept → ℕ → List ℕ → Kept
left_of k n s = left 192 after k n s
