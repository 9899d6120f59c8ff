-- An input read in blocks, as a program does that holds one block at a time. Nothing is looped or kept by a declared length.
use Rattle.std.specs.Prelude.{ℕ, ◌-◌, ◌≤◌, ◌%◌, min, List, [], ◌∷◌, ◌++◌, ◌≡◌, eqb, ltb, ℤ, length, take, drop, Result, Ok, Err, ⊤}
use Rattle.laws.specs.Choice.{when◌then◌else◌}
use Rattle.refusal.specs.declared.Refusal.{Refusal}
use Rattle.refusal.specs.declared.Refusal.TheVariants.{Bodies}
use Rattle.capture.specs.declared.Heading.{Heading}
use Rattle.capture.specs.declared.Shared.{Shared}
use Rattle.capture.specs.Bytes.{signed_bytes}
use Rattle.capture.specs.Bodies.{table_of, header_of}
use Rattle.capture.specs.Capture.{Capture, whole, loaded_capture, behind}

-- a block of `have` bytes where `left` are still declared: how many of them act, what is declared after it, and if bytes are over: a byte
-- that follows the last body or the half of a symbol
unfoldable pub shared_of : ℕ → ℕ → Shared
shared_of left have = let n = whole (min left have) in record { count = n; left = left - n; over = ltb n have }

-- the bytes that act, block by block, and the end
unfoldable pub played_of : ℕ → List (List ℕ) → List ℤ
played_of left [] = []
played_of left (b ∷ bs) =
    let p = shared_of left (length b) in
    let on = played_of p.left bs in
    signed_bytes (take p.count b) ++ (when p.over then [] else on)

unfoldable pub ended_of : ℕ → List (List ℕ) → Result ⊤ Refusal
ended_of left [] = when eqb left 0 then Ok Prim.tt else Err Bodies
ended_of left (b ∷ bs) =
    let p = shared_of left (length b) in
    let on = ended_of p.left bs in
    when p.over then Err Bodies else on

-- what is made of a first block and those after it: the first gives all but the symbols
unfoldable pub blockwise : List ℕ → List (List ℕ) → Result Capture Refusal
blockwise b bs =
    behind (header_of b)
    (λ (h : Heading).
    let parts = drop h.from b ∷ bs in loaded_capture h (table_of b) (played_of h.declared parts) (ended_of h.declared parts))

-- the input
unfoldable pub joined : List (List ℕ) → List ℕ
joined [] = []
joined (b ∷ bs) = b ++ joined bs

-- no symbol is cut but by the input's end
abbrev pub EvenBut : List (List ℕ) → Type 0
EvenBut [] = Unit {0}
EvenBut (b ∷ []) = Unit {0}
EvenBut (b ∷ c ∷ bs) = (length b % 2 ≡ 0) × EvenBut (c ∷ bs)

-- the first block reaches the symbols, whatever is declared, or is all there is
abbrev pub Reaches : List ℕ → List (List ℕ) → Type 0
Reaches b [] = Unit {0}
Reaches b (c ∷ bs) = 2310 ≤ length b
