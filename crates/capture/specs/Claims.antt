-- What is claimed of the definitions; proofs/Theorems.antt proves it.
use Rattle.std.specs.Prelude.{ℕ, ◌≤◌, List, ◌∷◌, ◌++◌, ◌≡◌, ℤ, length, Ok, IsOk, IsErr}
use Rattle.capture.specs.declared.Heading.{Heading}
use Rattle.capture.specs.Bodies.{table_of, points_of, header_of, header_answer, header_table}
use Rattle.capture.specs.Capture.{heading_points, capture_of}
use Rattle.capture.specs.Blocks.{blockwise, joined, EvenBut, Reaches}

-- an entry that is lent a table of 1,024 answers the header itself, and the table unless it is refused
abbrev pub AnswerIs : Type 0
AnswerIs =
    (s : List ℕ) (t : List ℤ) → length t ≡ 1024 →
    (header_answer (length t) s ≡ header_of s) × (IsOk (header_of s) → header_table t s ≡ table_of s) × (IsErr (header_of s) → header_table t s ≡ t)

-- the points of an accepted heading, without the zeros behind, are those of the file
abbrev pub PointsTold : Type 0
PointsTold = (s : List ℕ) (h : Heading) → header_of s ≡ Ok h → heading_points h ≡ points_of s

-- 2,310 bytes tell all that stands before the symbols
abbrev pub HeaderKept : Type 0
HeaderKept = (b more : List ℕ) → 2310 ≤ length b → (header_of (b ++ more) ≡ header_of b) × (table_of (b ++ more) ≡ table_of b)

-- wherever an input is cut, between symbols and past the header, its blocks give what the whole input means
abbrev pub BlocksTell : Type 0
BlocksTell = (b : List ℕ) (bs : List (List ℕ)) → Reaches b bs → EvenBut (b ∷ bs) → blockwise b bs ≡ capture_of (b ++ joined bs)
