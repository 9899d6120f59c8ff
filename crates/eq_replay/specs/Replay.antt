-- Calls as bytes: their answers, and what they leave.
use Rattle.std.specs.Prelude.{ℕ, List}
use Rattle.wire.specs.Wire.{numbers_of, packed_of}
use Rattle.wire.specs.Blocks.{replayed as replayed_by, left}
use Rattle.eq_calls.specs.declared.kept.Kept.{Kept}
use Rattle.fields.specs.Fields.{at}
use Rattle.eq_calls.specs.Turns.{turn_of}

-- number 0 tells which call it is
unfoldable pub answer_bytes : Kept → List ℕ → List ℕ
answer_bytes k s = let p = numbers_of s in packed_of (turn_of (at p 0) p k).told

unfoldable pub after : Kept → List ℕ → Kept
after k s = let p = numbers_of s in (turn_of (at p 0) p k).kept

-- the answers to the first n calls of s, each of 192 bytes, and what follows those calls
abbrev pub replayed : Kept → ℕ → List ℕ → List ℕ
replayed k n s = replayed_by 192 answer_bytes after k n s

-- .. and what those calls leave
abbrev pub left_of : Kept → ℕ → List ℕ → Kept
left_of k n s = left 192 after k n s
