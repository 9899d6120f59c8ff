-- Captures in small, each with the symbol bytes that act and with its end: 0, or the refusal's number.
use Rattle.std.specs.Prelude.{ℕ, ◌+◌, ◌-◌, ◌^◌, List, [], ◌∷◌, ◌++◌, ℤ, pos, replicate, take, Result, Ok, Err}
use Rattle.laws.specs.Choice.{minus}
use Rattle.wire.specs.Wire.{byte_of}
use Rattle.refusal.specs.declared.Refusal.{Refusal}
use Rattle.refusal.specs.Refusals.{number_of, code_of}
use Rattle.capture.specs.Capture.{Capture, capture_of}

pub record Outcome : Type 0 where
  pub symbols : List ℤ
  pub ends : ℕ

pub record Example : Type 0 where
  pub given : Outcome
  pub said : Outcome

abbrev outcome : Result Capture Refusal → Outcome
outcome (Ok c) = record { symbols = c.symbols; ends = code_of c.ends }
outcome (Err why) = record { symbols = []; ends = number_of why }

unfoldable pub outcome_of : List ℕ → Outcome
outcome_of s = outcome (capture_of s)

infix 4 ◌plays◌ends◌
abbrev pub ◌plays◌ends◌ : List ℕ → List ℤ → ℕ → Example
s plays l ends n = record { given = outcome_of s; said = record { symbols = l; ends = n } }

-- ---- parts of a file
unfoldable pub four : ℕ → List ℕ
four n = byte_of n 0 ∷ byte_of n 1 ∷ byte_of n 2 ∷ byte_of n 3 ∷ []

-- contents with these declared lengths of words, points and symbols
unfoldable pub contents : ℕ → ℕ → ℕ → List ℕ
contents w p q =
    4 ∷ 1 ∷ 0 ∷ 0 ∷ 0 ∷ four w ++ 2 ∷ 0 ∷ 0 ∷ 0 ∷ four 2048 ++ 3 ∷ 0 ∷ 0 ∷ 0 ∷ four p ++ 4 ∷ 0 ∷ 0 ∷ 0 ∷ four q

-- words all 1, and with a first entry 2; tables of zeros; points of zeros and k
unfoldable pub words : List ℕ
words = replicate 96 1

unfoldable pub faulty : List ℕ
faulty = 2 ∷ replicate 95 1

unfoldable pub zeros : ℕ → List ℕ
zeros n = replicate n 0

unfoldable pub points : ℕ → ℕ → ℕ → List ℕ
points bits n k = bits ∷ zeros n ++ four k

-- all before the symbols, where q bytes of them are declared
unfoldable pub file : ℕ → List ℕ
file q = contents 96 13 q ++ words ++ zeros 2048 ++ points 1 8 0

unfoldable pub worked : List Example
worked =
    -- contents that end early, a wrong count byte, and contents with nothing behind
    ([] plays [] ends 11)
    ∷ (4 ∷ [] plays [] ends 11)
    ∷ (take 32 (contents 96 13 0) plays [] ends 11)
    ∷ (5 ∷ zeros 40 plays [] ends 11)
    ∷ (contents 96 13 0 plays [] ends 12)
    -- a wrong length stands before any fault of a body, and all four of its bytes count
    ∷ (contents 96 13 1 ++ faulty ++ zeros 2048 ++ points 1 8 0 ++ zeros 1 plays [] ends 11)
    ∷ (contents (96 + 2 ^ 24) 13 0 ++ words plays [] ends 11)
    ∷ (contents 96 14 0 ++ words ++ zeros 2048 ++ points 1 9 0 plays [] ends 11)
    -- a listed length that does not fit bits: 4, once the declared length is there
    ∷ (contents 96 21 0 ++ words ++ zeros 2048 ++ points 1 16 0 plays [] ends 4)
    ∷ (contents 96 21 0 ++ words ++ zeros 2048 ++ points 1 15 0 plays [] ends 12)
    ∷ (contents 96 13 0 ++ words ++ zeros 2048 ++ points 0 8 0 plays [] ends 4)
    ∷ (contents 96 13 0 ++ words ++ zeros 2048 ++ points 6 8 0 plays [] ends 4)
    ∷ (contents 96 13 0 ++ words ++ zeros 2048 ++ points 255 8 0 plays [] ends 4)
    -- k is the last fault of points
    ∷ (contents 96 13 0 ++ words ++ zeros 2048 ++ points 2 8 (2 ^ 24 + 1) plays [] ends 4)
    ∷ (contents 96 13 0 ++ words ++ zeros 2048 ++ points 1 8 (2 ^ 24 + 1) plays [] ends 5)
    ∷ (contents 96 13 0 ++ words ++ zeros 2048 ++ points 1 8 (2 ^ 24) plays [] ends 0)
    ∷ (contents 96 21 0 ++ words ++ zeros 2048 ++ points 2 16 (2 ^ 24 + 1) plays [] ends 5)
    -- words are refused before the table ends early, but only once they are all there
    ∷ (contents 96 13 0 ++ faulty ++ zeros 100 plays [] ends 2)
    ∷ (contents 96 13 0 ++ take 50 faulty plays [] ends 12)
    -- symbols: an early end, the half of one, a byte that follows
    ∷ (file (2 ^ 32 - 2) ++ 1 ∷ 255 ∷ 127 ∷ 128 ∷ [] plays pos 1 ∷ minus 1 ∷ pos 127 ∷ minus 128 ∷ [] ends 12)
    ∷ (file 4 ++ 1 ∷ 2 ∷ 3 ∷ [] plays pos 1 ∷ pos 2 ∷ [] ends 12)
    ∷ (file 2 ++ 1 ∷ 2 ∷ 3 ∷ [] plays pos 1 ∷ pos 2 ∷ [] ends 12)
    ∷ (file 2 ++ 1 ∷ 2 ∷ [] plays pos 1 ∷ pos 2 ∷ [] ends 0)
    ∷ (file 0 plays [] ends 0)
    ∷ (file 0 ++ 7 ∷ [] plays [] ends 12)
    ∷ []
