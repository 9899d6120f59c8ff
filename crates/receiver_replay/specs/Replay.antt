-- The answers to calls, and what they leave.
use Rattle.std.specs.Prelude.{ℕ, ◌-◌, List, [], ◌∷◌, ltb, get_or}
use Rattle.laws.specs.Choice.{when◌then◌else◌}
use Rattle.wire.specs.Wire.{numbers_of, packed_of}
use Rattle.wire.specs.Blocks.{replayed as replayed_by, left}
use Rattle.fields.specs.Fields.{at, set_of, set_natural_of}
use Rattle.receiver_calls.specs.Calls.{plain}
use Rattle.receiver_calls.specs.Turns.{turn_of as free_turn_of}
use Rattle.receiver_replay.specs.Given.{symbols_of, put_of}
use Rattle.receiver_replay.specs.Calls.{All, Moved, moved, unmoved, new_turn, new_left, restart_turn, restart_left, look_turn, play_call, feed_call}

-- ---- one call: number 0 tells which. Those that take stores, in the order of their numbers, from 64 on; refusal 255 where there is no such call
abbrev pub takers : List ℕ → All → List Moved
takers p a =
    moved (new_turn a.kept p a.acc) a.table (new_left p a.acc) a.store a.soft a.input
    ∷ moved (restart_turn a.kept p a.acc) a.table (restart_left a.kept p a.acc) a.store a.soft a.input
    ∷ unmoved a (look_turn a.kept a.acc a.store a.soft)
    ∷ moved (plain a.kept 0) (set_of p a.table) a.acc a.store a.soft a.input
    ∷ play_call p a
    ∷ feed_call p (symbols_of p) a
    ∷ moved (plain a.kept 0) a.table (set_natural_of p a.acc) a.store a.soft a.input
    ∷ moved (plain a.kept 0) a.table a.acc a.store a.soft (put_of p a.input)
    ∷ feed_call p a.input a
    ∷ []

unfoldable pub stores_of : ℕ → List ℕ → All → Moved
stores_of n p a = get_or (takers p a) n (unmoved a (plain a.kept 255))

unfoldable pub turn_of : ℕ → List ℕ → All → Moved
turn_of op p a = when ltb op 64 then unmoved a (free_turn_of op p a.kept) else stores_of (op - 64) p a

-- ---- calls as bytes
unfoldable pub answer_bytes : All → List ℕ → List ℕ
answer_bytes a s = let p = numbers_of s in packed_of (turn_of (at p 0) p a).told

unfoldable pub after : All → List ℕ → All
after a s = let p = numbers_of s in (turn_of (at p 0) p a).all

-- the answers to the first n calls of s, each of 192 bytes, and what follows those calls
abbrev pub replayed : All → ℕ → List ℕ → List ℕ
replayed a n s = replayed_by 192 answer_bytes after a n s

-- .. and what those calls leave
abbrev pub left_of : All → ℕ → List ℕ → All
left_of a n s = left 192 after a n s
